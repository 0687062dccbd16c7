-- `explaining::fill::put_piece` meets its promise.
use Rattle.explaining.specs.Laws.{put_piece_number, put_piece_nothing, put_piece_name, put_piece_text, put_piece_itself}
use borrow.Author.Rules.{rules}
use mir.Facts.{to_z-of_z}
use mir.Syntax.{w64}
use Rattle.explaining.proofs.fill.put_piece.Goals as goal

pub returns-then-used-numbers : goal.returns-then-used-numbers
returns-then-used-numbers c = put_piece_number _ _ _ _ c.in-35.is c.if-used-numbers.true (to_z-of_z {w = w64} (search rules)) c.put_number.ensures

pub returns-else-used-numbers : goal.returns-else-used-numbers
returns-else-used-numbers c = put_piece_nothing _ _ _ _ c.in-35.is c.if-used-numbers.false

pub returns-in-64 : goal.returns-in-64
returns-in-64 c = put_piece_name _ _ _ c.in-64.is c.put_shown.ensures

pub returns-in-126 : goal.returns-in-126
returns-in-126 c = put_piece_text _ _ _ c.in-126.is c.put_shown-in-126.ensures

pub returns-in_default : goal.returns-in_default
returns-in_default c = put_piece_itself _ _ _ c.in_default.in_default-own.rest.0.0.1 c.in_default.in_default-own.rest.0.1 c.in_default.in_default-own.rest.1 c.requires
