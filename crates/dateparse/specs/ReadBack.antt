-- What is written of a date belongs to the grammar of date texts, and is read back.
-- Assumes nothing.
use Rattle.std.specs.Prelude.{ℕ, ◌<◌, ◌^◌, ◌≡◌, List, take, ℤ, nat_abs, Result, Ok}
use Rattle.std.proofs.Common.{arith, SFits}
use Rattle.std.specs.Int.{w32}
use Rattle.numbertext.specs.Numerals.{Unsigned, Signed}
use Rattle.writer.specs.Promise.{Decimal, WholeDecimal, YmdDecimal, WriteYmd}
use Rattle.writer.specs.Laws.{has_width, ymd_text}
use Rattle.writer.specs.Theorems.{written_front}
use Rattle.datetext.specs.Grammar.{YmdText}
use Rattle.days.specs.DayByDay.{Month}
use Rattle.datetext.specs.Promise.{ReadDate}
use Rattle.datetext.proofs.One.{read_one}
use Rattle.datetext.specs.Grammar.{Belongs}
use Rattle.datetext.specs.declared.Text.{Text}
use Rattle.refusals.specs.declared.Refusal.{Refusal}

unsigned_text : {p : List ℕ} {n : ℕ} → Decimal p n → n < 2 ^ 32 → Unsigned p n
unsigned_text d h = record { numeral = d.numeral; fits = h }

signed_text : {p : List ℕ} {y : ℤ} → WholeDecimal p y → SFits w32 y → Signed p y
signed_text (WholeDecimal.not_negative d) f = Signed.plain d.numeral f.sfits
signed_text (WholeDecimal.negative d) f = Signed.with_dash d.numeral (omega (arith, f.sfits))

-- every year, month and day has a text
pub has_text : (y : ℤ) (m d : ℕ) → (u : List ℕ) × YmdDecimal u y m d
has_text y m d = let (i, p) = has_width (nat_abs y) in let (j, q) = has_width m in let (k, r) = has_width d in (_, ymd_text y m d i j k p q r)

-- a year of 32 bits, a month 1 to 12 and a day of 32 bits, as they are written
module _ {t : List ℕ} {y : ℤ} {m d : ℕ} (w : YmdDecimal t y m d) (f : SFits w32 y) (mo : Month m) (h : d < 2 ^ 32) where
  -- the text writes that date, with the day at some place
  pub written_writes : (k : ℕ) × YmdText t y m d k
  written_writes = by w
    where
      by : {s : List ℕ} → YmdDecimal s y m d → (k : ℕ) × YmdText s y m d k
      by (YmdDecimal.ymd_decimal a b c) = (_, YmdText.ymd (signed_text a f) (unsigned_text b (omega (arith, mo.1))) mo (unsigned_text c h))

  pub written_belongs : Belongs t
  written_belongs = Belongs.by_day written_writes.1

  -- whoever reads it has the date
  pub reads_back : {r : Result Text Refusal} → ReadDate t r → (k : ℕ) × (r ≡ Ok (Text.Ymd y m d k))
  reads_back g = let e = written_writes in (e.0, read_one g (ReadDate.ymd_text e.1))

-- so for what `write_ymd` has put at the front of a buffer
pub round_trip : {y : ℤ} {m d : ℕ} {b b' : List ℕ} {i : ℕ} → SFits w32 y → Month m → d < 2 ^ 32 → WriteYmd y m d b b' (Ok i)
    → {r : Result Text Refusal} → ReadDate (take i b') r → (k : ℕ) × (r ≡ Ok (Text.Ymd y m d k))
round_trip f mo h w g = reads_back (written_front w) f mo h g
