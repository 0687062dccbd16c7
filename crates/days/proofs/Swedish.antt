-- The Swedish calendar: its eras, the labels beside its four switches, and that it rises. At the two ends of 32 bits it is in one reckoning.
-- Assumes nothing.
use Rattle.std.specs.Prelude.{◌≡◌, refl, [], ◌∷◌, ℤ, pos, negsuc, ◌-ℤ◌, ◌<ℤ◌, ◌≤ℤ◌}
use Rattle.std.proofs.Common.{sym, ◌∙◌, ap, subst, subst₂, ⊎_elim, arith}
use Rattle.std.proofs.Math.IntN.{suc_ℤ}
use Rattle.std.specs.Int.Signed.{lt_z_yes, le_z_yes}
use Rattle.whole.specs.Integers.{lt_or_ge, le_trans, lt_suc_le, antisym}
use Rattle.days.specs.DayByDay.{Label, label, label_of, julian, gregorian, month_length, ◌≺◌, by_month, by_day, splice, Thirtieth, Era, julian_era, gregorian_era, Switch, era_from, era, labels_in, SwitchDay, this, later, InOrder, Rises}
use Rattle.days.proofs.ClosedJulian as J
use Rattle.days.proofs.ClosedGregorian as G
use Rattle.days.proofs.ClosedNumbers.{numbered}
use Rattle.days.proofs.RisingTimelines.{era_below, era_from_lem, julian_lasts, gregorian_lasts, switches_rise}
pub use Rattle.days.specs.Swedish.{sweden, moved_era, leap_era}

abbrev moved : Switch
moved = record { on = pos 2_342_042; era = moved_era }

abbrev leapt : Switch
leapt = record { on = pos 2_346_425; era = leap_era }

abbrev again : Switch
again = record { on = pos 2_346_426; era = julian_era }

abbrev reformed : Switch
reformed = record { on = pos 2_361_390; era = gregorian_era }

module _ {n : ℤ} where
  from_moved : pos 2_342_042 ≤ℤ n → era sweden n ≡ era_from moved_era (leapt ∷ again ∷ reformed ∷ []) n
  from_moved h = era_from_lem julian_era moved (leapt ∷ again ∷ reformed ∷ []) h

  from_leapt : pos 2_346_425 ≤ℤ n → era sweden n ≡ era_from leap_era (again ∷ reformed ∷ []) n
  from_leapt h = from_moved (le_trans (le_z_yes tt) h) ∙ era_from_lem moved_era leapt (again ∷ reformed ∷ []) h

  from_again : pos 2_346_426 ≤ℤ n → era sweden n ≡ era_from julian_era (reformed ∷ []) n
  from_again h = from_leapt (le_trans (le_z_yes tt) h) ∙ era_from_lem leap_era again (reformed ∷ []) h

  pub first_era : n <ℤ pos 2_342_042 → era sweden n ≡ julian_era
  first_era h = era_below julian_era moved (leapt ∷ again ∷ reformed ∷ []) h

  pub moved_era_lem : pos 2_342_042 ≤ℤ n → n <ℤ pos 2_346_425 → era sweden n ≡ moved_era
  moved_era_lem h k = from_moved h ∙ era_below moved_era leapt (again ∷ reformed ∷ []) k

  pub leap_era_lem : pos 2_346_425 ≤ℤ n → n <ℤ pos 2_346_426 → era sweden n ≡ leap_era
  leap_era_lem h k = from_leapt h ∙ era_below leap_era again (reformed ∷ []) k

  pub again_era : pos 2_346_426 ≤ℤ n → n <ℤ pos 2_361_390 → era sweden n ≡ julian_era
  again_era h k = from_again h ∙ era_below julian_era reformed [] k

  pub reformed_era : pos 2_361_390 ≤ℤ n → era sweden n ≡ gregorian_era
  reformed_era h = from_again (le_trans (le_z_yes tt) h) ∙ era_from_lem julian_era reformed [] h

-- ---- The labels beside the switches
pub last_before_1700 : labels_in sweden (pos 2_342_041) ≡ label (pos 1700) 2 28
unfolding splice month_length
last_before_1700 = numbered J.starts 2_147_485_700 2 28 (omega arith, omega arith, omega arith, omega arith)

pub first_moved : labels_in sweden (pos 2_342_042) ≡ label (pos 1700) 3 1
unfolding splice month_length
first_moved = numbered J.starts 2_147_485_700 3 1 (omega arith, omega arith, omega arith, omega arith)

pub last_moved : labels_in sweden (pos 2_346_424) ≡ label (pos 1712) 2 29
unfolding splice month_length
last_moved = numbered J.starts 2_147_485_712 2 29 (omega arith, omega arith, omega arith, omega arith)

pub thirtieth : labels_in sweden (pos 2_346_425) ≡ label (pos 1712) 2 30
unfolding splice
thirtieth = refl

pub first_julian_again : labels_in sweden (pos 2_346_426) ≡ label (pos 1712) 3 1
unfolding splice month_length
first_julian_again = numbered J.starts 2_147_485_712 3 1 (omega arith, omega arith, omega arith, omega arith)

pub last_julian_1753 : labels_in sweden (pos 2_361_389) ≡ label (pos 1753) 2 17
unfolding splice month_length
last_julian_1753 = numbered J.starts 2_147_485_753 2 17 (omega arith, omega arith, omega arith, omega arith)

pub first_gregorian_1753 : labels_in sweden (pos 2_361_390) ≡ label (pos 1753) 3 1
unfolding splice month_length
first_gregorian_1753 = numbered G.starts 2_147_485_753 3 1 (omega arith, omega arith, omega arith, omega arith)

-- ---- It rises
over : (a b : ℤ) {l m : Label} → labels_in sweden a ≡ l → labels_in sweden b ≡ m → l ≺ m → labels_in sweden a ≺ labels_in sweden b
over a b e f h = subst₂ ◌≺◌ (sym e) (sym f) h

first_later : (d : ℤ) → SwitchDay sweden.switches d → labels_in sweden (d -ℤ pos 1) ≺ labels_in sweden d
first_later d this = over (pos 2_342_041) (pos 2_342_042) last_before_1700 first_moved (by_month refl (omega arith))
first_later d (later this) = over (pos 2_346_424) (pos 2_346_425) last_moved thirtieth (by_day refl refl (omega arith))
first_later d (later (later this)) = over (pos 2_346_425) (pos 2_346_426) thirtieth first_julian_again (by_month refl (omega arith))
first_later d (later (later (later this))) = over (pos 2_361_389) (pos 2_361_390) last_julian_1753 first_gregorian_1753 (by_month refl (omega arith))
first_later d (later (later (later (later none)))) = elim none [ ]

pub swedish_in_order : InOrder sweden.switches
swedish_in_order = (lt_z_yes tt, (lt_z_yes tt, (lt_z_yes tt, tt)))

pub swedish_one_day : (n y : ℤ) → (era sweden n).counts ≡ Thirtieth y → SwitchDay sweden.switches (suc_ℤ n)
swedish_one_day n y e = ⊎_elim
    (λ h. absurd (julian_lasts (counts_of (first_era h))))
    (λ a. ⊎_elim
    (λ h. absurd (julian_lasts (counts_of (moved_era_lem a h))))
    (λ b. ⊎_elim
    (λ h. subst (SwitchDay sweden.switches) (ap suc_ℤ (antisym b (lt_suc_le h))) (later (later this)))
    (λ c. ⊎_elim
    (λ h. absurd (julian_lasts (counts_of (again_era c h))))
    (λ h. absurd (gregorian_lasts (counts_of (reformed_era h))))
    (lt_or_ge n (pos 2_361_390)))
    (lt_or_ge n (pos 2_346_426)))
    (lt_or_ge n (pos 2_346_425)))
    (lt_or_ge n (pos 2_342_042))
  where
    counts_of : {x : Era} → era sweden n ≡ x → x.counts ≡ Thirtieth y
    counts_of g = sym (ap (λ (x : Era). x.counts) g) ∙ e

pub swedish_rises : Rises (labels_in sweden)
swedish_rises = switches_rise sweden swedish_one_day first_later

-- ---- At the two ends of 32 bits it is in one reckoning
pub swedish_least : labels_in sweden (negsuc 2_147_483_647) ≡ label_of julian (negsuc 2_147_483_647)
unfolding splice
swedish_least = refl

pub swedish_greatest : labels_in sweden (pos 2_147_483_647) ≡ label_of gregorian (pos 2_147_483_647)
unfolding splice
swedish_greatest = refl
