-- The weekday of a day that is biased as a natural: a remainder by 7.
-- Assumes nothing.
use Rattle.std.specs.Prelude.{◌≡◌, refl, ℕ, suc, ◌+◌, ◌-◌, ◌<◌, ◌≤◌, ◌%◌, ◌^◌, ℤ}
use Rattle.std.proofs.Common.{sym, ◌∙◌, ap, ⊎_elim, arith, lt-ltb, le-ltb}
use Rattle.std.proofs.Math.IntN.{suc_ℤ}
use Rattle.whole.specs.Tests.{lt_or_ge}
use Rattle.whole.specs.Biased.{unbias_suc}
use Rattle.whole.specs.Promise.{unbias}
use Rattle.days.specs.DayByDay.{stepping, next_weekday, prev_weekday, weekday}
use Rattle.days.proofs.ReckoningSteps.{stepping_good, stepping_suc}
use Rattle.days.proofs.ClosedStarts.{everywhere}
pub use Rattle.days.specs.ClosedWeekdays.{InWeek}

next_within : (w : ℕ) → w < 7 → next_weekday w ≡ suc w
unfolding next_weekday
next_within w h = simp (lt-ltb w 7 h)

next_past : (w : ℕ) → 7 ≤ w → next_weekday w ≡ 1
unfolding next_weekday
next_past w h = simp (le-ltb w 7 h)

prev_within : (w : ℕ) → 1 < w → prev_weekday w ≡ w - 1
unfolding prev_weekday
prev_within w h = simp (lt-ltb 1 w h)

prev_past : (w : ℕ) → w ≤ 1 → prev_weekday w ≡ 7
unfolding prev_weekday
prev_past w h = simp (le-ltb 1 w h)

next_good : (w : ℕ) → InWeek w → InWeek (next_weekday w)
next_good w g = ⊎_elim (λ h. rw (next_within w h) (record { from = omega arith; to = h })) (λ h. rw (next_past w h) (record { from = omega arith; to = omega arith })) (lt_or_ge w 7)

prev_good : (w : ℕ) → InWeek w → InWeek (prev_weekday w)
prev_good w g = ⊎_elim (λ h. rw (prev_within w h) (record { from = omega arith; to = omega (arith, g.to) })) (λ h. rw (prev_past w h) (record { from = omega arith; to = omega arith })) (lt_or_ge 1 w)

next_prev : (w : ℕ) → InWeek w → next_weekday (prev_weekday w) ≡ w
next_prev w g = ⊎_elim
    (λ h. ap next_weekday (prev_within w h) ∙ next_within (w - 1) (omega (arith, g.to)) ∙ omega arith)
    (λ h. ap next_weekday (prev_past w h) ∙ next_past 7 (omega arith) ∙ omega (arith, g.from))
    (lt_or_ge 1 w)

prev_next : (w : ℕ) → InWeek w → prev_weekday (next_weekday w) ≡ w
prev_next w g = ⊎_elim
    (λ h. ap prev_weekday (next_within w h) ∙ prev_within (suc w) (omega (arith, g.from)) ∙ omega arith)
    (λ h. ap prev_weekday (next_past w h) ∙ prev_past 1 (omega arith) ∙ omega (arith, g.to))
    (lt_or_ge w 7)

monday : InWeek 1
monday = record { from = omega arith; to = omega arith }

pub weekday_in : (n : ℤ) → InWeek (weekday n)
unfolding weekday
weekday_in n = stepping_good InWeek next_good prev_good next_prev 1 monday n

-- the weekday of the next day is the next weekday
pub weekday_suc : (n : ℤ) → weekday (suc_ℤ n) ≡ next_weekday (weekday n)
unfolding weekday
weekday_suc n = stepping_suc InWeek next_good prev_good next_prev 1 monday n

-- the remainder, of the next number
rest_next : (k : ℕ) → next_weekday ((k + 5) % 7 + 1) ≡ (suc k + 5) % 7 + 1
rest_next k = ⊎_elim (λ h. next_within ((k + 5) % 7 + 1) h ∙ omega arith) (λ h. next_past ((k + 5) % 7 + 1) h ∙ omega arith) (lt_or_ge ((k + 5) % 7 + 1) 7)

rest_good : (k : ℕ) → InWeek ((k + 5) % 7 + 1)
rest_good k = record { from = omega arith; to = omega arith }

-- of a 32-bit day that is biased as a natural
pub weekday_is : (k : ℕ) → weekday (unbias (2 ^ 31) k) ≡ (k + 5) % 7 + 1
unfolding weekday stepping
weekday_is = everywhere (λ k. weekday (unbias (2 ^ 31) k) ≡ (k + 5) % 7 + 1)
    (λ k e. ap weekday (unbias_suc (2 ^ 31) k) ∙ weekday_suc (unbias (2 ^ 31) k) ∙ ap next_weekday e ∙ rest_next k)
    (λ k e. sym (prev_next (weekday (unbias (2 ^ 31) k)) (weekday_in (unbias (2 ^ 31) k)))
    ∙ ap prev_weekday (sym (weekday_suc (unbias (2 ^ 31) k)) ∙ ap weekday (sym (unbias_suc (2 ^ 31) k)) ∙ e ∙ sym (rest_next k)) ∙ prev_next ((k + 5) % 7 + 1) (rest_good k))
    (2 ^ 31) refl
