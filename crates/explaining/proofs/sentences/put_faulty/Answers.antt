-- `explaining::sentences::put_faulty` meets its promise.
use mathlib.Core.Path.{refl}
use borrow.Author.Rules.{rules}
use mir.Facts.{to_z-of_z}
use Rattle.explaining.specs.Laws.{numbers_as, also, held, faulty_put}
use mir.Syntax.{w64}
use Rattle.explaining.proofs.sentences.put_faulty.Goals as goal

pub returns : goal.returns
returns c = faulty_put c.args.why _ _ _ c.requires.0.room (numbers_as (also (held c.counted.type_inv c.counted.ensures) (also (to_z-of_z {w = w64} {z = c.args.why.value} (search rules)) refl)) (rw c.fault_words-pattern.ensures.0 at c.say-next.ensures)) c.put_end.ensures
