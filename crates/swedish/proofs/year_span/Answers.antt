-- `swedish::year_span` meets its promise: by January and December.
use Rattle.inner.specs.Natural.{biased_year_value}
use Rattle.inner.specs.Laws.{raised_year_biased}
use Rattle.swedish.specs.Laws.{year_is}
use Rattle.swedish.proofs.year_span.Goals as goal

pub returns : goal.returns
returns c = year_is (biased_year_value c.args.year) (raised_year_biased c.ranges.year.fits) c.days_of-january.ensures c.days_of-december.ensures
