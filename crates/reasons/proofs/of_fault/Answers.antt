-- `reasons::of_fault` meets its promise.
use Rattle.reasons.specs.Laws.{ten_first, faulty}
use Rattle.reasons.proofs.of_fault.Goals as goal

pub mended_at-place-requires : goal.mended_at-place-requires
mended_at-place-requires c = ten_first c.requires

pub returns : goal.returns
returns c = faulty c.requires c.is_in_year.ensures c.mended_at-place.ensures c.expected_at.ensures
