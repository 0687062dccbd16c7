-- The paragraph for a line of a register. What a name comes to is given: N.
use Rattle.std.specs.Prelude.{ℕ, ◌≤◌, ◌<◌, ◌≡◌, List, [], length, Ok, Err}
use Rattle.refusals.specs.declared.Refusal.{Refusal}
use Rattle.calendar.specs.declared.Calendar.{Calendar}
use Rattle.entry.specs.Entry.{longest_entry, Entry}
use Rattle.entry.specs.Promise.{Naming}
use Rattle.reasons.specs.declared.Reason.{Reason}
use Rattle.reasons.specs.declared.Reason.TheVariants as Reason'
use Rattle.reasons.specs.Promise.{Explains}
use Rattle.explaining.specs.Patterns.{Filled}
use Rattle.explaining.specs.Wording.{Says, unknown_pattern, long_line}
use Rattle.explaining.specs.Promise.{longest_paragraph}

-- of a name that is refused with this number: 19, no calendar has it; 16, the memory of the catalogue was made up
pub data Unnamed (name text : List ℕ) (number : ℕ) : List ℕ → Type 0 where
  unknown : {t : List ℕ} → number ≡ 19 → Filled name [] unknown_pattern [] t → Unnamed name text number t
  made_up : {t : List ℕ} → ¬ (number ≡ 19) → Says name text Reason'.MadeUp t → Unnamed name text number t

-- of a line that is not too long, by its name and its text
pub data ByEntry (N : Naming) (l : List ℕ) : List ℕ → Type 0 where
  no_name : {name text t : List ℕ} {f : Refusal} → Entry l name text → N name (Err f) → Unnamed name text f.number t → ByEntry N l t
  by_text : {name text t : List ℕ} {c : Calendar} {r : Reason} → Entry l name text → N name (Ok c) → Explains c text r → Says name text r t → ByEntry N l t

-- 20; then 19; then the reason for what the text comes to
pub data Explained (N : Naming) (l : List ℕ) : List ℕ → Type 0 where
  too_long : longest_entry < length l → Explained N l long_line
  explained : {t : List ℕ} → length l ≤ longest_entry → ByEntry N l t → Explained N l t

-- what is written for a line, and that it is no longer than the longest paragraph
pub record Paragraph (N : Naming) (l t : List ℕ) : Type 0 where
  pub is : Explained N l t
  pub short : length t ≤ longest_paragraph
