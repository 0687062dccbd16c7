-- What is found at a place of a list of bytes, by computing, in the order of the code. `Meaning` shows that this is what `Numerals` says.
-- Assumes nothing.
use Rattle.std.specs.Prelude.{ℕ, ◌+◌, List, [], ◌∷◌, Bool, true, false, length, drop, ltb, eqb, pos, Result, Ok, Err, ℤ, ⊤}
use Rattle.refusals.specs.declared.Refusal.{Refusal}
use Rattle.refusals.specs.Promise.{refusal}
use Rattle.whole.specs.Promise.{signed_of}
use Rattle.digits.specs.Numerals.{plus, dash}
use Rattle.digits.specs.Promise.{pick, run_of}
use Rattle.digits.specs.declared.NoRun.{NoRun}
use Rattle.digits.specs.declared.NoRun.TheVariants as NoRun'

-- ---- at a place of s, what f finds in the bytes from there on; a place past the bytes is refused 16
unfoldable pub placed : {A : Type 0} → (ℕ → List ℕ → Result A Refusal) → List ℕ → ℕ → Result A Refusal
placed f s at = pick (ltb (length s) at) (Err (refusal 16 0 (pos 0))) (f at (drop at s))

-- the text ends where something is expected, or the place is past it
abbrev pub ended_at_value : ℕ → List ℕ → ℕ → Refusal
ended_at_value number s at = pick (ltb (length s) at) (refusal 16 0 (pos 0)) (refusal number at (pos 0))

-- ---- an unsigned number

abbrev pub no_number_value : ℕ → List ℕ → Refusal
no_number_value at [] = refusal 8 at (pos 0)
no_number_value at (b ∷ u) = refusal 9 at (pos b)

abbrev pub to_number : ℕ → List ℕ → Result (ℕ × ℕ) NoRun → Result (ℕ × ℕ) Refusal
to_number at u (Err NoRun'.Empty) = Err (no_number_value at u)
to_number at u (Ok (n, next)) = Ok (n, next)
to_number at u (Err (NoRun'.Over i)) = Err (refusal 11 i (pos 0))

unfoldable pub read_number : ℕ → List ℕ → Result (ℕ × ℕ) Refusal
read_number at u = to_number at u (run_of 4294967295 at u)

abbrev pub the_number : List ℕ → ℕ → Result (ℕ × ℕ) Refusal
the_number s at = placed read_number s at

-- ---- a signed number: neg says whether a `-` stands before the digits

-- the greatest magnitude that fits
abbrev pub limit_of : Bool → ℕ
limit_of true = 2147483648
limit_of false = 2147483647

-- below 32 bits, and above them
abbrev pub way_out_value : Bool → ℕ
way_out_value true = 28
way_out_value false = 11

-- `none` is the refusal where there is no digit
abbrev pub to_signed : Bool → Refusal → Result (ℕ × ℕ) NoRun → Result (ℤ × ℕ) Refusal
to_signed neg none (Err NoRun'.Empty) = Err none
to_signed neg none (Ok (n, next)) = Ok (signed_of neg n, next)
to_signed neg none (Err (NoRun'.Over i)) = Err (refusal (way_out_value neg) i (pos 0))

-- the digits u stand at `first`
unfoldable pub signed_run_value : Bool → ℕ → Refusal → List ℕ → Result (ℤ × ℕ) Refusal
signed_run_value neg first none u = to_signed neg none (run_of (limit_of neg) first u)

unfoldable pub read_signed : ℕ → List ℕ → Result (ℤ × ℕ) Refusal
read_signed at [] = Err (refusal 8 at (pos 0))
read_signed at (b ∷ u) =
    pick (eqb b dash) (signed_run_value true (at + 1) (refusal 10 at (pos 0)) u)
    (pick (eqb b plus) (signed_run_value false (at + 1) (refusal 10 at (pos 0)) u)
    (signed_run_value false at (refusal 9 at (pos b)) (b ∷ u)))

abbrev pub the_signed : List ℕ → ℕ → Result (ℤ × ℕ) Refusal
the_signed s at = placed read_signed s at

-- ---- a `-`, and the end

unfoldable pub read_dash : ℕ → List ℕ → Result ℕ Refusal
read_dash at [] = Err (refusal 13 at (pos 0))
read_dash at (b ∷ u) = pick (eqb b dash) (Ok (at + 1)) (Err (refusal 12 at (pos b)))

abbrev pub the_dash : List ℕ → ℕ → Result ℕ Refusal
the_dash s at = placed read_dash s at

unfoldable pub read_end : ℕ → List ℕ → Result ⊤ Refusal
read_end at [] = Ok tt
read_end at (b ∷ u) = Err (refusal 14 at (pos b))

abbrev pub the_end : List ℕ → ℕ → Result ⊤ Refusal
the_end s at = placed read_end s at
