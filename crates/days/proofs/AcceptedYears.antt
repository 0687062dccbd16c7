-- The years of the 32-bit days: from -5884323 to 5874898 in every accepted calendar, by the labels of the first and the last of them. So every
-- accepted calendar is a timeline that rises.
-- Assumes nothing.
use Rattle.std.specs.Prelude.{◌≡◌, refl, ◌<◌, ℤ, pos, negsuc, nat_abs, ◌-ℤ◌, ◌≤ℤ◌}
use Rattle.std.proofs.Common.{sym, ◌∙◌, ap, subst, inl, inr, ⊎_elim, arith, leb→le}
use Rattle.std.specs.Int.Signed.{le_z_yes}
use Rattle.whole.specs.Edge.{fits_from, fits_to, fits_between}
use Rattle.whole.specs.Integers.{le_trans, back_lt}
use Rattle.days.specs.DayByDay.{Label, Calendar, Julian, Gregorian, Reforming, Swedish, timeline, labels, Accepted, julian_accepted, gregorian_accepted, reforming_accepted, swedish_accepted, Is32Bit, InOrder, Rising}
use Rattle.days.proofs.RisingLabels.{no_earlier_year}
use Rattle.days.proofs.Swedish.{swedish_least, swedish_greatest, swedish_in_order}
use Rattle.days.proofs.AcceptedCalendars.{EitherLabel, reforming_either, accepted_one_day, accepted_rises}
use Rattle.days.proofs.KnownDays.{known_days}

-- the first and the last of them have their Julian or their Gregorian label
pub least_label : (c : Calendar) → EitherLabel c (negsuc 2_147_483_647)
least_label Julian = inl refl
least_label Gregorian = inr refl
least_label (Reforming r) = reforming_either r (negsuc 2_147_483_647)
least_label Swedish = inl swedish_least

pub greatest_label : (c : Calendar) → EitherLabel c (pos 2_147_483_647)
greatest_label Julian = inl refl
greatest_label Gregorian = inr refl
greatest_label (Reforming r) = reforming_either r (pos 2_147_483_647)
greatest_label Swedish = inr swedish_greatest

abbrev year_is : {l m : Label} → l ≡ m → l.year ≡ m.year
year_is e = ap (λ (l : Label). l.year) e

pub year_from : {c : Calendar} {n : ℤ} → Accepted c → Is32Bit n → negsuc 5_884_322 ≤ℤ (labels c n).year
year_from {c} {n} a f = le_trans least (no_earlier_year (accepted_rises a) (fits_from f))
  where
    least : negsuc 5_884_322 ≤ℤ (labels c (negsuc 2_147_483_647)).year
    least = ⊎_elim
        (λ e. subst (λ (y : ℤ). negsuc 5_884_322 ≤ℤ y) (sym (year_is (e ∙ known_days.least_julian.0))) (le_z_yes tt))
        (λ e. subst (λ (y : ℤ). negsuc 5_884_322 ≤ℤ y) (sym (year_is (e ∙ known_days.least_gregorian.0))) (le_z_yes tt))
        (least_label c)

pub year_to : {c : Calendar} {n : ℤ} → Accepted c → Is32Bit n → (labels c n).year ≤ℤ pos 5_874_898
year_to {c} {n} a f = le_trans (no_earlier_year (accepted_rises a) (fits_to f)) greatest
  where
    greatest : (labels c (pos 2_147_483_647)).year ≤ℤ pos 5_874_898
    greatest = ⊎_elim
        (λ e. subst (λ (y : ℤ). y ≤ℤ pos 5_874_898) (sym (year_is (e ∙ known_days.greatest_julian.0))) (le_z_yes tt))
        (λ e. subst (λ (y : ℤ). y ≤ℤ pos 5_874_898) (sym (year_is (e ∙ known_days.greatest_gregorian.0))) (le_z_yes tt))
        (greatest_label c)

-- so it is of 32 bits, and has at most seven digits
pub year_fits : {y : ℤ} → negsuc 5_884_322 ≤ℤ y → y ≤ℤ pos 5_874_898 → Is32Bit y
year_fits h k = fits_between (le_trans (le_z_yes tt) h) (le_trans k (le_z_yes tt))

pub year_short : {y : ℤ} → negsuc 5_884_322 ≤ℤ y → y ≤ℤ pos 5_874_898 → nat_abs y < 10_000_000
year_short {y = pos n} h k = omega (arith, leb→le n 5_874_898 k.le)
year_short {y = negsuc n} h k = omega (arith, leb→le n 5_884_322 h.le)

-- ---- every accepted calendar rises
pub accepted_rising : {c : Calendar} → Accepted c → Rising (timeline c)
accepted_rising a = record {
  in_order = in_order a;
  one_day = accepted_one_day a;
  first_later = λ d s. accepted_rises a (d -ℤ pos 1) d (back_lt d);
  year_fits = λ n f. year_fits (year_from a f) (year_to a f);
}
  where
    in_order : {c : Calendar} → Accepted c → InOrder (timeline c).switches
    in_order julian_accepted = tt
    in_order gregorian_accepted = tt
    in_order (reforming_accepted a) = tt
    in_order swedish_accepted = swedish_in_order
