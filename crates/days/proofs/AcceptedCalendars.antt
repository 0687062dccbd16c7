-- The calendars: what their timelines say in the words of the scope, and that every accepted one rises.
-- Assumes nothing.
use Rattle.std.specs.Prelude.{◌≡◌, refl, [], ℤ, pos, ◌-ℤ◌, ◌<ℤ◌, ◌≤ℤ◌}
use Rattle.std.proofs.Common.{sym, ◌∙◌, ap, subst₂, inl, inr, ⊎_elim}
use Rattle.std.proofs.Math.IntN.{suc_ℤ}
use Rattle.std.specs.Int.Signed.{≤ℤ_refl}
use Rattle.whole.specs.Integers.{lt_or_ge, back_lt}
use Rattle.days.specs.DayByDay.{Label, label_of, julian, gregorian, ◌≺◌, splice, Thirtieth, JulianStyle, GregorianStyle, Era, julian_era, gregorian_era, era, Calendar, Julian, Gregorian, Reforming, timeline, labels, style, Rises, Borne, Accepted, julian_accepted, gregorian_accepted, reforming_accepted, swedish_accepted, SwitchDay, this, later, Skipped}
use Rattle.days.proofs.LabelOrder.{≺-trans}
use Rattle.days.proofs.RisingLabels.{between_nowhere}
use Rattle.days.proofs.RisingSpans.{Proper}
use Rattle.days.proofs.ReckoningLabels.{julian_rises, gregorian_rises}
use Rattle.days.proofs.RisingTimelines.{splice_below, splice_from, era_below, era_from_lem, in_era, julian_lasts, gregorian_lasts, switches_rise, timeline_proper}
use Rattle.days.proofs.Swedish.{swedish_one_day, swedish_rises}
pub use Rattle.days.specs.AcceptedCalendars.{EitherLabel}

-- ---- What the timelines say
-- the Julian calendar has the Julian label on every day, the Gregorian one the Gregorian label
julian_labels : (n : ℤ) → labels Julian n ≡ label_of julian n
julian_labels n = refl

gregorian_labels : (n : ℤ) → labels Gregorian n ≡ label_of gregorian n
gregorian_labels n = refl

-- reforming at r, days below r have their Julian label and style, days from r on their Gregorian ones
module _ (r : ℤ) {n : ℤ} where
  pub reforming_below : n <ℤ r → (labels (Reforming r) n ≡ label_of julian n) × (style (Reforming r) n ≡ JulianStyle)
  reforming_below h = in_era (timeline (Reforming r)) n (era_below julian_era (record { on = r; era = gregorian_era }) [] h)

  pub reforming_from : r ≤ℤ n → (labels (Reforming r) n ≡ label_of gregorian n) × (style (Reforming r) n ≡ GregorianStyle)
  reforming_from h = in_era (timeline (Reforming r)) n (era_from_lem julian_era (record { on = r; era = gregorian_era }) [] h)

pub reforming_labels : (r n : ℤ) → labels (Reforming r) n ≡ splice r (label_of julian) (label_of gregorian) n
reforming_labels r n = ⊎_elim
    (λ h. (reforming_below r h).0 ∙ sym (splice_below r (label_of julian) (label_of gregorian) h))
    (λ h. (reforming_from r h).0 ∙ sym (splice_from r (label_of julian) (label_of gregorian) h))
    (lt_or_ge n r)

pub reforming_either : (r n : ℤ) → EitherLabel (Reforming r) n
reforming_either r n = ⊎_elim (λ h. inl (reforming_below r h).0) (λ h. inr (reforming_from r h).0) (lt_or_ge n r)

-- ---- They rise
pub no_switch : {d : ℤ} → SwitchDay [] d → ⊥
no_switch s = elim s [ ]

-- a 30 February lasts one day, where there is one
reforming_lasts : (r n y : ℤ) → (era (timeline (Reforming r)) n).counts ≡ Thirtieth y → ⊥
reforming_lasts r n y e = ⊎_elim
    (λ h. julian_lasts (sym (ap (λ (x : Era). x.counts) (era_below julian_era (record { on = r; era = gregorian_era }) [] h)) ∙ e))
    (λ h. gregorian_lasts (sym (ap (λ (x : Era). x.counts) (era_from_lem julian_era (record { on = r; era = gregorian_era }) [] h)) ∙ e))
    (lt_or_ge n r)

pub accepted_one_day : {c : Calendar} → Accepted c → (n y : ℤ) → (era (timeline c) n).counts ≡ Thirtieth y → SwitchDay (timeline c).switches (suc_ℤ n)
accepted_one_day julian_accepted n y e = absurd (julian_lasts e)
accepted_one_day gregorian_accepted n y e = absurd (gregorian_lasts e)
accepted_one_day (reforming_accepted {r} a) n y e = absurd (reforming_lasts r n y e)
accepted_one_day swedish_accepted n y e = swedish_one_day n y e

-- a reforming calendar does if its first Gregorian label is later than the Julian label of the same day
pub reforming_rises : (r : ℤ) → label_of julian r ≺ label_of gregorian r → Rises (labels (Reforming r))
reforming_rises r up = switches_rise (timeline (Reforming r)) (λ n y e. absurd (reforming_lasts r n y e)) over
  where
    over : (d : ℤ) → SwitchDay (timeline (Reforming r)).switches d → labels (Reforming r) (d -ℤ pos 1) ≺ labels (Reforming r) d
    over d this = subst₂ ◌≺◌ (sym (reforming_below r (back_lt r)).0) (sym (reforming_from r (≤ℤ_refl r)).0) (≺-trans (julian_rises (r -ℤ pos 1) r (back_lt r)) up)
    over d (later none) = elim none [ ]

pub accepted_rises : {c : Calendar} → Accepted c → Rises (labels c)
accepted_rises julian_accepted = julian_rises
accepted_rises gregorian_accepted = gregorian_rises
accepted_rises (reforming_accepted {r} a) = reforming_rises r a.later
accepted_rises swedish_accepted = swedish_rises

-- ---- Their labels
pub labels_proper : (c : Calendar) (n : ℤ) → Proper (labels c n)
labels_proper c = timeline_proper (timeline c)

-- no day of an accepted calendar bears a label that it skips
pub skipped_nowhere : {c : Calendar} {l : Label} → Accepted c → Skipped c l → ¬ Borne (labels c) l
skipped_nowhere a s = between_nowhere (accepted_rises a) s.past_last s.before_first
