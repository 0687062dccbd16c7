-- What reading a whole text comes to, by computing, in the order of the code. `Laws` shows that this is what the grammar says.
-- Assumes nothing.
use Rattle.std.specs.Prelude.{ℕ, Bool, false, List, length, ℤ, pos, ltb, leb, Result, Ok, Err, ⊤}
use Rattle.refusals.specs.Promise.{refusal}
use Rattle.digits.specs.Promise.{pick}
use Rattle.numbertext.specs.Reading.{the_number, the_signed, the_dash, the_end}
use Rattle.datetext.specs.declared.Text.{Text}
use Rattle.refusals.specs.declared.Refusal.{Refusal}

abbrev pub is_month_value : ℕ → Bool
is_month_value m = pick (leb 1 m) (leb m 12) false

-- ---- the answer, after each part that was read

abbrev pub to_ymd : ℤ → ℕ → ℕ → ℕ → Result ⊤ Refusal → Result Text Refusal
to_ymd y m d k (Ok tt) = Ok (Text.Ymd y m d k)
to_ymd y m d k (Err f) = Err f

-- the day's number stands at k
abbrev pub after_day : List ℕ → ℤ → ℕ → ℕ → Result (ℕ × ℕ) Refusal → Result Text Refusal
after_day s y m k (Err f) = Err f
after_day s y m k (Ok (d, n)) = to_ymd y m d k (the_end s n)

abbrev pub after_month_value : List ℕ → ℤ → ℕ → Result ℕ Refusal → Result Text Refusal
after_month_value s y m (Err f) = Err f
after_month_value s y m (Ok n) = after_day s y m n (the_number s n)

-- the second number stands at k
abbrev pub after_second : List ℕ → ℤ → ℕ → Result (ℕ × ℕ) Refusal → Result Text Refusal
after_second s y k (Err f) = Err f
after_second s y k (Ok (m, n)) =
    pick (ltb n (length s))
    (pick (is_month_value m) (after_month_value s y m (the_dash s n)) (Err (refusal 3 k (pos m))))
    (Ok (Text.Ordinal y m k))

abbrev pub after_dash_value : List ℕ → ℤ → Result ℕ Refusal → Result Text Refusal
after_dash_value s y (Err f) = Err f
after_dash_value s y (Ok n) = after_second s y n (the_number s n)

abbrev pub after_year : List ℕ → Result (ℤ × ℕ) Refusal → Result Text Refusal
after_year s (Err f) = Err f
after_year s (Ok (y, n)) = after_dash_value s y (the_dash s n)

unfoldable pub read_text : List ℕ → Result Text Refusal
read_text s = after_year s (the_signed s 0)
