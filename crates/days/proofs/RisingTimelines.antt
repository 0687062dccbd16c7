-- Any timeline that rises: its labels rise, and so all that `RisingLabels` and `RisingSpans` show of labellings that rise holds of it. They are of a month
-- 1 to 12 and a day 1 to 31. A skipped label is on no day, and skipped at one switch.
-- Assumes nothing.
use Rattle.std.specs.Prelude.{◌≡◌, Bool, List, [], ◌∷◌, ◌⊎◌, ℕ, zero, suc, ◌≤◌, ℤ, pos, negsuc, ◌+ℤ◌, ◌-ℤ◌, ◌<ℤ◌, ◌≤ℤ◌}
use Rattle.std.proofs.Math.Path.{refl, ap}
use Rattle.std.proofs.Common.{sym, ◌∙◌, subst, subst₂, inl, inr, ⊎_elim, arith}
use Rattle.std.proofs.Math.Bool.{true, false, cond}
use Rattle.std.proofs.Math.Dec.{T}
use Rattle.std.proofs.Math.IntN.{suc_ℤ, +ℤ_idr, +ℤ-suc_ℤ, suc_ℤ-+ℤ, -ℤ_one, pred-suc}
use Rattle.std.specs.Int.Signed.{lt_z, clash_ℤ}
use Rattle.whole.specs.Integers.{lt_or_ge, lt_suc, lt_trans, suc_le, antisym, steps, back_one}
use Rattle.days.specs.DayByDay.{Label, label, label_of, julian, gregorian, ◌≺◌, splice, Counts, JulianBy, GregorianBy, Thirtieth, moved, counted, Era, Switch, Timeline, era_from, era, labels_in, style_in, SwitchDay, this, later, SkippedIn, Rising, Rises, Borne}
use Rattle.days.proofs.LabelOrder.{≺-trans}
use Rattle.days.proofs.RisingLabels.{up_back, between_nowhere}
use Rattle.days.proofs.RisingSpans.{Proper}
use Rattle.days.proofs.ReckoningLabels.{julian_rises, gregorian_rises, julian_proper, gregorian_proper, julian_most, gregorian_most}

-- ---- The era of a day: below the first switch, and from it on
module _ {A : Type 0} (d : ℤ) (f g : ℤ → A) {n : ℤ} where
  pub splice_below : n <ℤ d → splice d f g n ≡ f n
  unfolding splice
  splice_below h = ap (λ (t : Bool). cond t (f n) (g n)) (is (lt_z n d) h.lt)
    where
      is : (t : Bool) → T t → t ≡ true
      is true h = refl
      is false h = absurd h

  pub splice_from : d ≤ℤ n → splice d f g n ≡ g n
  unfolding splice
  splice_from h = ap (λ (t : Bool). cond t (f n) (g n)) (is (lt_z n d) (λ t. clash_ℤ (record { lt = t }) h))
    where
      is : (t : Bool) → (T t → ⊥) → t ≡ false
      is true h = absurd (h tt)
      is false h = refl

module _ (e : Era) (s : Switch) (l : List Switch) {n : ℤ} where
  pub era_below : n <ℤ s.on → era_from e (s ∷ l) n ≡ e
  era_below h = splice_below s.on (λ _. e) (era_from s.era l) h

  pub era_from_lem : s.on ≤ℤ n → era_from e (s ∷ l) n ≡ era_from s.era l n
  era_from_lem h = splice_from s.on (λ _. e) (era_from s.era l) h

-- label and style of a day are those of its era
pub in_era : (t : Timeline) (n : ℤ) {e : Era} → era t n ≡ e → (labels_in t n ≡ counted e.counts n) × (style_in t n ≡ e.style)
in_era t n e = (ap (λ (x : Era). counted x.counts n) e, ap (λ (x : Era). x.style) e)

-- from day n to the next there is a switch, or the era goes on
goes : (e : Era) (l : List Switch) (n : ℤ) → SwitchDay l (suc_ℤ n) ⊎ (era_from e l n ≡ era_from e l (suc_ℤ n))
goes e [] n = inr refl
goes e (s ∷ l) n = ⊎_elim
    (λ h. inr (era_below e s l (lt_trans (lt_suc n) h) ∙ sym (era_below e s l h)))
    (λ h. ⊎_elim
    (λ k. inl (subst (SwitchDay (s ∷ l)) (antisym h (suc_le k)) this))
    (λ k. ⊎_elim (λ d. inl (later d)) (λ g. inr (era_from_lem e s l k ∙ g ∙ sym (era_from_lem e s l h))) (goes s.era l n))
    (lt_or_ge n s.on))
    (lt_or_ge (suc_ℤ n) s.on)

-- ---- What counts goes on rising, but for a 30 February
pub moved_is : (k : ℤ) (f : ℤ → Label) (n : ℤ) → moved k f n ≡ f (n +ℤ k)
moved_is (pos zero) f n = ap f (sym (+ℤ_idr n))
moved_is (pos (suc k)) f n = refl
moved_is (negsuc k) f n = refl

moved_up : {f : ℤ → Label} → Rises f → (k n : ℤ) → moved k f n ≺ moved k f (suc_ℤ n)
moved_up {f} up k n = subst₂ ◌≺◌ (sym (moved_is k f n)) (sym (moved_is k f (suc_ℤ n)))
    (up (n +ℤ k) (suc_ℤ n +ℤ k) (subst (λ (z : ℤ). (n +ℤ k) <ℤ z) (sym (suc_ℤ-+ℤ n k)) (lt_suc (n +ℤ k))))

counted_up : {A : Type 0} (w : Counts) (n : ℤ) → ((y : ℤ) → w ≡ Thirtieth y → A) → A ⊎ (counted w n ≺ counted w (suc_ℤ n))
counted_up (JulianBy k) n a = inr (moved_up julian_rises k n)
counted_up (GregorianBy k) n a = inr (moved_up gregorian_rises k n)
counted_up (Thirtieth y) n a = inl (a y refl)

-- the two reckonings are no 30 February
pub julian_lasts : {k y : ℤ} → JulianBy k ≡ Thirtieth y → ⊥
julian_lasts e = let z : ◌≡◌ {A = ℕ} 0 1 = cc in omega arith

pub gregorian_lasts : {k y : ℤ} → GregorianBy k ≡ Thirtieth y → ⊥
gregorian_lasts e = let z : ◌≡◌ {A = ℕ} 0 1 = cc in omega arith

-- ---- The labels rise: within an era, and over each switch
rises_on : {f : ℤ → Label} → ((n : ℤ) → f n ≺ f (suc_ℤ n)) → (a : ℤ) (k : ℕ) → f a ≺ f (a +ℤ pos (suc k))
rises_on {f} up a zero = subst (λ (z : ℤ). f a ≺ f z) (sym (+ℤ-suc_ℤ a (pos zero) ∙ ap suc_ℤ (+ℤ_idr a))) (up a)
rises_on {f} up a (suc k) = subst (λ (z : ℤ). f a ≺ f z) (sym (+ℤ-suc_ℤ a (pos (suc k)))) (≺-trans (rises_on up a k) (up (a +ℤ pos (suc k))))

pub rises_by_steps : {f : ℤ → Label} → ((n : ℤ) → f n ≺ f (suc_ℤ n)) → Rises f
rises_by_steps {f} up a b h = let (k, e) = steps h in subst (λ (z : ℤ). f a ≺ f z) (sym e) (rises_on up a k)

pub switches_rise : (t : Timeline) → ((n y : ℤ) → (era t n).counts ≡ Thirtieth y → SwitchDay t.switches (suc_ℤ n))
    → ((d : ℤ) → SwitchDay t.switches d → labels_in t (d -ℤ pos 1) ≺ labels_in t d) → Rises (labels_in t)
switches_rise t one over = rises_by_steps (λ n. ⊎_elim (step n)
    (λ e. ⊎_elim (step n) (λ u. subst (λ (x : Era). labels_in t n ≺ counted x.counts (suc_ℤ n)) e u)
    (counted_up {A = SwitchDay t.switches (suc_ℤ n)} (era t n).counts n (one n)))
    (goes t.before t.switches n))
  where
    step : (n : ℤ) → SwitchDay t.switches (suc_ℤ n) → labels_in t n ≺ labels_in t (suc_ℤ n)
    step n d = subst (λ (z : ℤ). labels_in t z ≺ labels_in t (suc_ℤ n)) (-ℤ_one (suc_ℤ n) ∙ pred-suc n) (over (suc_ℤ n) d)

pub rising_rises : {t : Timeline} → Rising t → Rises (labels_in t)
rising_rises {t} r = switches_rise t r.one_day r.first_later

-- ---- Every label is of a month 1 to 12 and a day 1 to 31, in every timeline
counted_all : (P : Label → Type 0) → ((n : ℤ) → P (label_of julian n)) → ((n : ℤ) → P (label_of gregorian n)) → ((y : ℤ) → P (label y 2 30)) → (w : Counts) (n : ℤ) → P (counted w n)
counted_all P p q r (JulianBy k) n = subst P (sym (moved_is k (label_of julian) n)) (p (n +ℤ k))
counted_all P p q r (GregorianBy k) n = subst P (sym (moved_is k (label_of gregorian) n)) (q (n +ℤ k))
counted_all P p q r (Thirtieth y) n = r y

pub timeline_proper : (t : Timeline) (n : ℤ) → Proper (labels_in t n)
timeline_proper t n = counted_all Proper julian_proper gregorian_proper (λ y. (omega arith, omega arith, omega arith)) (era t n).counts n

pub timeline_most : (t : Timeline) (n : ℤ) → (labels_in t n).day ≤ 31
timeline_most t n = counted_all (λ (l : Label). l.day ≤ 31) julian_most gregorian_most (λ y. omega arith) (era t n).counts n

-- ---- Skipped labels
module _ {t : Timeline} {l : Label} (r : Rising t) where
  -- no day bears one
  pub skipped_in_nowhere : SkippedIn t l → ¬ Borne (labels_in t) l
  skipped_in_nowhere s = between_nowhere (rising_rises r) s.past_last s.before_first

  -- and it is skipped at one switch
  pub one_switch : (s u : SkippedIn t l) → s.switch ≡ u.switch
  one_switch s u = antisym (gap_before s.past_last u.before_first) (gap_before u.past_last s.before_first)
    where
      gap_before : {a b : ℤ} → labels_in t (a -ℤ pos 1) ≺ l → l ≺ labels_in t b → a ≤ℤ b
      gap_before {a} {b} h k = subst (λ (z : ℤ). z ≤ℤ b) (back_one a) (suc_le (up_back (rising_rises r) (≺-trans h k)))

  -- nothing borne lies between neighbouring days
  pub none_between_days : (n : ℤ) → labels_in t n ≺ l → l ≺ labels_in t (suc_ℤ n) → ¬ Borne (labels_in t) l
  none_between_days n h k = between_nowhere (rising_rises r) (subst (λ (z : ℤ). labels_in t z ≺ l) (sym (-ℤ_one (suc_ℤ n) ∙ pred-suc n)) h) k
