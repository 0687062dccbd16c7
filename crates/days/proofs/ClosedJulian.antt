-- The Julian calendar in biased naturals: the first day of each year, and so the label of every day.
-- Assumes nothing.
use Rattle.std.specs.Prelude.{◌≡◌, Bool, ℕ, suc, ◌+◌, ◌%◌}
use Rattle.std.proofs.Common.{ap, ⊎_elim, arith, eq-eqb, ne_eqb}
use Rattle.days.specs.DayByDay.{julian, julian_leap, month_length}
use Rattle.whole.specs.Tests.{eq_or_not}
use Rattle.days.proofs.ReckoningSteps.{Valid, label_anchor}
use Rattle.days.proofs.ClosedYear.{year_length, day_of_month, through}
use Rattle.days.proofs.ClosedDivides.{divides_4}
use Rattle.days.proofs.ClosedStarts.{Starts}
pub use Rattle.days.specs.ClosedJulian.{leap_at, start}

pub length_leap : (y : ℕ) → y % 4 ≡ 0 → year_length (leap_at y) ≡ 366
length_leap y e = ap (λ (b : Bool). year_length b) (eq-eqb (y % 4) 0 e)

pub length_common : (y : ℕ) → (y % 4 ≡ 0 → ⊥) → year_length (leap_at y) ≡ 365
length_common y n = ap (λ (b : Bool). year_length b) (ne_eqb (y % 4) 0 n)

start_next : (y : ℕ) → start (suc y) ≡ start y + year_length (leap_at y)
start_next y = ⊎_elim (λ e. omega (arith, length_leap y e)) (λ n. omega (arith, length_common y n)) (eq_or_not (y % 4) 0)

valid : Valid julian_leap julian.anchor_label
unfolding julian month_length
valid = record { month_from = omega arith; month_to = omega arith; day_from = omega arith; day_to = omega arith }

pub starts : Starts julian leap_at start
unfolding julian julian_leap day_of_month through
starts = record {
  anchor_valid = valid;
  leap_is = divides_4;
  start_next = start_next;
  known = 2_147_479_288;
  place = 0;
  place_in = omega arith;
  known_label = label_anchor julian valid;
}
