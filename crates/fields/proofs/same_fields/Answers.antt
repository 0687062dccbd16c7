-- `fields::same_fields` meets its promise, field by field.
use Rattle.fields.specs.Laws.{told_by_each}
use Rattle.fields.proofs.same_fields.Goals as goal

pub returns : goal.returns
returns c = told_by_each _ _ c.eq.ensures
