-- What is decided of labels: which of two is earlier; whether a day of a timeline that rises bears one, and whether it is skipped. Some day is of an
-- earlier year than a label, and some day of a later one: the search goes day by day from the one to the other, and finds the days of a year too.
-- Assumes nothing.
use Rattle.std.specs.Prelude.{◌≡◌, refl, List, [], ◌∷◌, ℕ, zero, suc, ◌≤◌, ℤ, pos, negsuc, ◌+ℤ◌, ◌-ℤ◌, ◌<ℤ◌, ◌≤ℤ◌}
use Rattle.std.proofs.Common.{sym, ◌∙◌, ap, subst, inl, inr, ⊎_elim, arith, le→leb}
use Rattle.std.proofs.Math.IntN.{suc_ℤ, +ℤ_idr, +ℤ-suc_ℤ, suc_ℤ-+ℤ, +ℤ-neg_ℤ_cancel, -ℤ_one, pred-suc}
use Rattle.std.specs.Int.Signed.{<ℤ-≤ℤ_trans, clash_ℤ}
use Rattle.whole.specs.Biased.{unbias_below}
use Rattle.whole.specs.Promise.{unbias}
use Rattle.whole.specs.Edge.{fits_from, fits_to, fits_between}
use Rattle.whole.specs.Integers.{lt_or_ge, lt_trans, le_trans, le_lt_trans, lt_suc_le, suc_le, back_one, steps, antisym, eq_le}
use Rattle.days.specs.DayByDay.{Label, label, ◌≺◌, by_year, Switch, Timeline, labels_in, Rises, Borne, OfYear, Is32Bit, SwitchDay, this, later, Skippable, SkippedIn}
use Rattle.days.proofs.LabelOrder.{≺-irrefl, ≺-trans, ≺-year, ≺-total}
use Rattle.days.proofs.RisingLabels.{up_back}
use Rattle.days.proofs.RisingSpans.{Proper, First, first_by, first_at, Stretch, stretch, year_span, biased_from}
use Rattle.days.proofs.RisingPlaces.{one_more, year_falls}
use Rattle.days.proofs.ReckoningLabels.{julian_rises, gregorian_rises, julian_proper, gregorian_proper, julian_most, gregorian_most}
pub use Rattle.days.specs.RisingDecided.{Decided}

pub fits_or_not : (n : ℤ) → Decided (Is32Bit n)
fits_or_not n = ⊎_elim (λ h. inr (λ f. clash_ℤ h (fits_from f)))
    (λ h. ⊎_elim (λ k. inr (λ f. clash_ℤ k (fits_to f))) (λ k. inl (fits_between h k)) (lt_or_ge (pos 2_147_483_647) n)) (lt_or_ge n (negsuc 2_147_483_647))

-- ---- Two labels
earlier_or_not : (l m : Label) → Decided (l ≺ m)
earlier_or_not l m = ⊎_elim inl
    (λ h. inr (λ k. ⊎_elim (λ e. ≺-irrefl (subst (λ (x : Label). l ≺ x) (sym e) k)) (λ g. ≺-irrefl (≺-trans k g)) h)) (≺-total l m)

same_or_not : (l m : Label) → Decided (l ≡ m)
same_or_not l m = ⊎_elim (λ h. inr (λ e. ≺-irrefl (subst (λ (x : Label). l ≺ x) (sym e) h)))
    (λ h. ⊎_elim inl (λ g. inr (λ e. ≺-irrefl (subst (λ (x : Label). m ≺ x) e g))) h) (≺-total l m)

-- ---- The first day whose label is not before l
module _ {f : ℤ → Label} (up : Rises f) {l : Label} where
  -- there is one if the label of some day a is before l, and that of a day k days on is not
  search_on : (k : ℕ) (a : ℤ) → f a ≺ l → ¬ (f (a +ℤ pos k) ≺ l) → (i : ℤ) × First f l i
  search_on zero a p q = absurd (q (subst (λ (z : ℤ). f z ≺ l) (sym (+ℤ_idr a)) p))
  search_on (suc k) a p q = ⊎_elim
      (λ g. search_on k (suc_ℤ a) g (subst (λ (z : ℤ). ¬ (f z ≺ l)) (+ℤ-suc_ℤ a (pos k) ∙ sym (suc_ℤ-+ℤ a (pos k))) q))
      (λ g. (suc_ℤ a, first_by up (subst (λ (z : ℤ). f z ≺ l) (sym (-ℤ_one (suc_ℤ a) ∙ pred-suc a)) p) g))
      (earlier_or_not (f (suc_ℤ a)) l)

  -- and no two
  no_sooner : {a b : ℤ} → First f l a → First f l b → a ≤ℤ b
  no_sooner {a} {b} p q = ⊎_elim (λ h. absurd (q.not_earlier b (eq_le refl) (p.earlier b h))) (λ h. h) (lt_or_ge b a)

  -- only this day can bear l
  borne_by : {a : ℤ} → First f l a → Decided (Borne f l)
  borne_by {a} p = ⊎_elim (λ e. inl (a, e)) (λ x. inr (λ b. x (ap f (antisym (no_sooner p (first_at up b.1)) (no_sooner (first_at up b.1) p)) ∙ b.1))) (same_or_not (f a) l)

-- a whole number is biased as a natural from 1 on
some_bias : (z : ℤ) → (bias : ℕ) × (unbias bias 1 ≤ℤ z)
some_bias (pos n) = (1, record { le = le→leb 0 n (omega arith) })
some_bias (negsuc n) = (suc (suc n), eq_le (unbias_below (suc (suc n)) 1 (omega arith) ∙ ap negsuc (omega arith)))

-- ---- A labelling that rises, of months 1 to 12 and days 1 to 31
module _ {f : ℤ → Label} (up : Rises f) (proper : (n : ℤ) → Proper (f n)) (most : (n : ℤ) → (f n).day ≤ 31) where
  -- some day is of a year before y, and some day of a year after it: in 400 days the year changes
  falls_to : (y : ℤ) (k : ℕ) (n : ℤ) → (f n).year ≤ℤ (y +ℤ pos k) → (i : ℤ) × ((f i).year <ℤ y)
  falls_to y zero n h = (n -ℤ pos 400, <ℤ-≤ℤ_trans (year_falls up proper most n) (le_trans h (eq_le (+ℤ_idr y))))
  falls_to y (suc k) n h = falls_to y k (n -ℤ pos 400) (lt_suc_le (<ℤ-≤ℤ_trans (year_falls up proper most n) (le_trans h (eq_le (+ℤ-suc_ℤ y (pos k))))))

  year_before : (y : ℤ) → (i : ℤ) × ((f i).year <ℤ y)
  year_before y = ⊎_elim
      (λ h. let (k, e) = steps h in falls_to y (suc k) (pos 0) (eq_le e))
      (λ h. falls_to y 0 (pos 0) (le_trans h (eq_le (sym (+ℤ_idr y)))))
      (lt_or_ge y (f (pos 0)).year)

  year_grows : (n : ℤ) → (f n).year <ℤ (f (n +ℤ pos 400)).year
  year_grows n = subst (λ (z : ℤ). (f z).year <ℤ (f (n +ℤ pos 400)).year) (+ℤ-neg_ℤ_cancel n (pos 400)) (year_falls up proper most (n +ℤ pos 400))

  grows_to : (y : ℤ) (k : ℕ) (n : ℤ) → (y -ℤ pos k) ≤ℤ (f n).year → (i : ℤ) × (y <ℤ (f i).year)
  grows_to y zero n h = (n +ℤ pos 400, le_lt_trans (subst (λ (z : ℤ). z ≤ℤ (f n).year) (+ℤ_idr y) h) (year_grows n))
  grows_to y (suc k) n h = grows_to y k (n +ℤ pos 400)
      (subst (λ (z : ℤ). z ≤ℤ (f (n +ℤ pos 400)).year) (ap suc_ℤ (one_more y k) ∙ back_one (y -ℤ pos k)) (suc_le (le_lt_trans h (year_grows n))))

  year_after_lem : (y : ℤ) → (i : ℤ) × (y <ℤ (f i).year)
  year_after_lem y = ⊎_elim
      (λ h. let (k, e) = steps h in grows_to y (suc k) (pos 0) (eq_le (ap (λ (z : ℤ). z -ℤ pos (suc k)) e ∙ +ℤ-neg_ℤ_cancel (f (pos 0)).year (pos (suc k)))))
      (λ h. grows_to y 0 (pos 0) (le_trans (eq_le (+ℤ_idr y)) h))
      (lt_or_ge (f (pos 0)).year y)

  -- so every label has such a first day
  has_first : (l : Label) → (i : ℤ) × First f l i
  has_first l =
      let (a, p) = year_before l.year in
      let (b, q) = year_after_lem l.year in
      let (k, e) = steps (up_back up {a = a} {b = b} (by_year (lt_trans p q))) in
      search_on up (suc k) a (by_year p) (λ r. clash_ℤ q (≺-year (subst (λ (z : ℤ). f z ≺ l) (sym e) r)))

  pub borne_or_not : (l : Label) → Decided (Borne f l)
  borne_or_not l = let (i, p) = has_first l in borne_by up p

  -- the days of a year
  pub year_days : (y : ℤ) → (bias : ℕ) × (a : ℕ) × (b : ℕ) × Stretch f (OfYear y) bias a b
  year_days y =
      let (i, p) = has_first (label y 1 1) in
      let (j, q) = has_first (label (suc_ℤ y) 1 1) in
      let h : i ≤ℤ j = ⊎_elim (λ g. absurd (q.not_earlier j (eq_le refl) (≺-trans (p.earlier j g) (year_span y).rising))) (λ g. g) (lt_or_ge j i) in
      let (bias, g) = some_bias i in
      let (a, d, u) = biased_from bias 1 i g in
      let (b, e, v) = biased_from bias 1 j (le_trans g h) in
      (bias, a, b, stretch up proper (year_span y) bias (subst (First f (label y 1 1)) d p) (subst (First f (label (suc_ℤ y) 1 1)) e q) u)

-- ---- Skipped labels: the switches are gone through
switch_or_none : {P : ℤ → Type 0} → ((d : ℤ) → Decided (P d)) → (l : List Switch) → Decided ((d : ℤ) × SwitchDay l d × P d)
switch_or_none decides [] = inr (λ s. elim s.1 [ ])
switch_or_none {P} decides (s ∷ l) = ⊎_elim (λ p. inl (s.on, this, p))
    (λ x. ⊎_elim (λ (d, i, p). inl (d, later i, p)) (λ y. inr (λ (d, i, p). by x y i p)) (switch_or_none decides l)) (decides s.on)
  where
    by : ¬ P s.on → ¬ ((d : ℤ) × SwitchDay l d × P d) → {d : ℤ} → SwitchDay (s ∷ l) d → P d → ⊥
    by x y this p = x p
    by x y (later i) p = y (_, i, p)

skippable_or_not : (l : Label) → Decided (Skippable l)
skippable_or_not l = ⊎_elim (λ b. inl (inl b))
    (λ x. ⊎_elim (λ b. inl (inr b)) (λ y. inr (⊎_elim x y)) (borne_or_not gregorian_rises gregorian_proper gregorian_most l))
    (borne_or_not julian_rises julian_proper julian_most l)

pub skipped_or_not : (t : Timeline) (l : Label) → Decided (SkippedIn t l)
skipped_or_not t l = ⊎_elim
    (λ b. ⊎_elim
    (λ (d, i, p). inl (record { switch = d; switches = i; past_last = p.0; before_first = p.1; skippable = b }))
    (λ x. inr (λ s. x (s.switch, s.switches, (s.past_last, s.before_first))))
    (switch_or_none over t.switches))
    (λ x. inr (λ s. x s.skippable))
    (skippable_or_not l)
  where
    over : (d : ℤ) → Decided ((labels_in t (d -ℤ pos 1) ≺ l) × (l ≺ labels_in t d))
    over d = ⊎_elim (λ p. ⊎_elim (λ q. inl (p, q)) (λ x. inr (λ h. x h.1)) (earlier_or_not l (labels_in t d))) (λ x. inr (λ h. x h.0))
        (earlier_or_not (labels_in t (d -ℤ pos 1)) l)
