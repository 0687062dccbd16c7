-- What the functions of a paragraph ask for: room, and a name, a text and a place that are short enough.
use Rattle.std.specs.Prelude.{ℕ, ◌+◌, ◌≤◌, List, length}
use Rattle.reasons.specs.declared.Reason.{Reason}
use Rattle.reasons.specs.declared.Reason.TheVariants.{Accepted, MadeUp, Faulty, Missing, Skipped, OffYear, Outside}

-- the bytes of a paragraph at most, for a name and a text of at most 512 bytes each

abbrev pub longest_paragraph : ℕ
longest_paragraph = 4096

-- a buffer has room for a paragraph from `at` on
pub record Room (b : List ℕ) (at : ℕ) (name text : List ℕ) : Type 0 where
  pub room : at + longest_paragraph ≤ length b
  pub name_short : length name ≤ 512
  pub text_short : length text ≤ 512

-- the place at which a text is faulty
abbrev pub place_of : Reason → ℕ
place_of (Accepted date leap) = 0
place_of MadeUp = 0
place_of (Faulty why in_year_value place expected) = place
place_of (Missing why year month days) = 0
place_of (Skipped why before after) = 0
place_of (OffYear why year length) = 0
place_of (Outside why above) = 0
