-- What is promised: the digits that stand at a place of a list of bytes, by computing, in the order of the code. `Runs` and `Few` show that this is what
-- `Numerals` says.
-- Assumes nothing.
use Rattle.std.specs.Prelude.{ℕ, ◌+◌, ◌-◌, ◌*◌, Bool, true, false, List, [], ◌∷◌, length, ◌==◌, nat_le, nat_lt, slice_index, Result, Ok, Err}
use Rattle.digits.specs.Numerals.{value_of}
use Rattle.digits.specs.declared.NoRun.{NoRun}
use Rattle.digits.specs.declared.NoRun.TheVariants as NoRun'

abbrev pub pick : {A : Type 0} → Bool → A → A → A
pick true a b = a
pick false a b = b

abbrev pub is_digit_value : ℕ → Bool
is_digit_value b = pick (nat_le 48 b) (nat_le b 57) false

-- the digits that come first
abbrev pub front : List ℕ → List ℕ
front [] = []
front (b ∷ s) = pick (is_digit_value b) (b ∷ front s) []

-- ---- a run of digits: p are the digits, which stand at `at`

-- where they leave the range, after digits that wrote n; if they do not, the place after them
abbrev pub left_at : ℕ → ℕ → ℕ → List ℕ → ℕ
left_at limit n at [] = at
left_at limit n at (b ∷ p) = pick (nat_le (n * 10 + (b - 48)) limit) (left_at limit (n * 10 + (b - 48)) (at + 1) p) at

unfoldable pub run_from : ℕ → ℕ → List ℕ → Result (ℕ × ℕ) NoRun
run_from limit at [] = Err NoRun'.Empty
run_from limit at (b ∷ p) =
    pick (nat_le (value_of (b ∷ p)) limit) (Ok (value_of (b ∷ p), at + length (b ∷ p))) (Err (NoRun'.Over (left_at limit 0 at (b ∷ p))))

abbrev pub run_of : ℕ → ℕ → List ℕ → Result (ℕ × ℕ) NoRun
run_of limit at u = run_from limit at (front u)

-- a run that wrote n and goes from `at` to i
abbrev pub ends_of : ℕ → ℕ → ℕ → Result (ℕ × ℕ) NoRun
ends_of n at i = pick (i == at) (Err NoRun'.Empty) (Ok (n, i))

-- ---- one digit, and two

-- a byte less 48, which wraps in 32 bits: below 10 exactly for a digit
abbrev pub digit_value : ℕ → ℕ
digit_value b = pick (nat_le 48 b) (b - 48) (b + 4294967248)

-- 10 where the bytes end
unfoldable pub digit_of : List ℕ → ℕ → ℕ
digit_of s at = pick (nat_lt at (length s)) (digit_value (slice_index s at)) 10

-- 100 where they are not two digits
abbrev pub pair_value : ℕ → ℕ → ℕ
pair_value a b = pick (nat_lt 9 a) 100 (pick (nat_lt 9 b) 100 (a * 10 + b))

unfoldable pub pair_of : List ℕ → ℕ → ℕ
pair_of s at = pair_value (digit_of s at) (digit_of s (at + 1))
