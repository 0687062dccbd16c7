-- `inner::julian_place` meets its promise: the year of a 32-bit day has 32 bits.
use native.Mathlib.Omega.{arith}
use Rattle.days.proofs.ClosedJulian as J
use Rattle.days.proofs.ClosedRange.{julian_year}
use Rattle.days.proofs.ClosedYear.{year_most}
use Rattle.inner.specs.Laws.{raised_day_biased, spot_again}
use Rattle.inner.proofs.julian_place.Goals as goal

pub overflow_sub-result : goal.overflow_sub-result
overflow_sub-result c = (julian_year (raised_day_biased c.ranges.day.fits) c.decompose_julian-place.ensures).from

pub overflow_cast-result : goal.overflow_cast-result
overflow_cast-result c = record { fits = omega (arith, julian_year (raised_day_biased c.ranges.day.fits) c.decompose_julian-place.ensures) }

pub overflow_cast-result-2 : goal.overflow_cast-result-2
overflow_cast-result-2 c = record { fits = omega (arith, c.decompose_julian-place.ensures.to, year_most (J.leap_at c.decompose_julian-place.result.year)) }

pub returns : goal.returns
returns c = let p = c.decompose_julian-place.ensures in spot_again (julian_year (raised_day_biased c.ranges.day.fits) p) p
