-- What is promised of the ways of walkers, on whole numbers: which day lies ahead, which is given next, which is held then, and when a walker is ended.
-- Assumes nothing.
use Rattle.std.specs.Prelude.{Bool, true, false, ℕ, ◌≤◌, ℤ, Result, Ok, Err, Option, Some, None}
use Rattle.std.proofs.Math.IntN.{suc_ℤ, pred_ℤ}
use Rattle.whole.specs.Whether.{Whether}
use Rattle.days.specs.DayByDay.{Is32Bit}
use Rattle.ways.specs.declared.Kind.{Kind}
use Rattle.ways.specs.declared.Kind.TheVariants.{Later, Earlier, AndLater, AndEarlier}
use Rattle.ways.specs.declared.Given.{Given}
use Rattle.ways.specs.declared.NoStep.{NoStep}
use Rattle.ways.specs.declared.NoStep.TheVariants as NoStep'

-- whether a walker goes to later days; else it goes to earlier ones
abbrev pub goes_later_value : Kind → Bool
goes_later_value Later = true
goes_later_value Earlier = false
goes_later_value AndLater = true
goes_later_value AndEarlier = false

-- the day that lies ahead of day n
abbrev pub toward : Kind → ℤ → ℤ
toward Later n = suc_ℤ n
toward Earlier n = pred_ℤ n
toward AndLater n = suc_ℤ n
toward AndEarlier n = pred_ℤ n

-- the day next to day n, later or earlier
abbrev pub beside : Bool → ℤ → ℤ
beside true n = suc_ℤ n
beside false n = pred_ℤ n

-- day d of a month has a next one, or one before it, in every month
abbrev pub Inside : Bool → ℕ → Type 0
Inside true d = d ≤ 27
Inside false d = 2 ≤ d

-- whether it has, and the day next to day n is one of 32 bits
abbrev pub IsStaying : Bool → ℕ → ℤ → Bool → Type 0
IsStaying l d n = Whether (Inside l d × Is32Bit (beside l n))

-- day n, where 32 bits hold it
pub data IsNeighbour (n : ℤ) : Option ℤ → Type 0 where
  there : Is32Bit n → IsNeighbour n (Some n)
  nowhere : ¬ Is32Bit n → IsNeighbour n None

-- whether the day that a walker holds is the one that it gives next; else it is the one that it gave last, or was made from
abbrev pub gives_held_value : Kind → Bool
gives_held_value Later = false
gives_held_value Earlier = false
gives_held_value AndLater = true
gives_held_value AndEarlier = true

-- the day to give next of a walker that holds day n
abbrev pub gives : Kind → ℤ → ℤ
gives Later n = suc_ℤ n
gives Earlier n = pred_ℤ n
gives AndLater n = n
gives AndEarlier n = n

-- a walker with day n to give next is ended exactly if that is no day of 32 bits
abbrev pub EndedAt : ℤ → Bool → Type 0
EndedAt n true = ¬ Is32Bit n
EndedAt n false = Is32Bit n

-- the day that is held after day n was given: that day itself where the walker is ended, or is of the kind that holds the day given last;
-- else the day to give next
abbrev pub holds : Kind → Bool → ℤ → ℤ
holds k true n = n
holds Later false n = n
holds Earlier false n = n
holds AndLater false n = suc_ℤ n
holds AndEarlier false n = pred_ℤ n

-- the flag that a walker holding day n can have: while it is not ended, the day to give next is of 32 bits; once it is ended, no day of
-- 32 bits lies ahead
abbrev pub FlagAt : Kind → ℤ → Bool → Type 0
FlagAt k n true = ¬ Is32Bit (toward k n)
FlagAt k n false = Is32Bit (gives k n)

-- a step of a walker that holds day n and has the flag e: it is no flag that this day can have; the walker is ended; or the day to give, the
-- day that is held after it, and whether the walker is then ended
pub data NextStep (k : Kind) (n : ℤ) : Bool → Result Given NoStep → Type 0 where
  made_up : {e : Bool} → ¬ FlagAt k n e → NextStep k n e (Err NoStep'.MadeUp)
  ended : FlagAt k n true → NextStep k n true (Err NoStep'.Ended)
  goes : FlagAt k n false → {e : Bool} → EndedAt (toward k (gives k n)) e → NextStep k n false (Ok (record { given = gives k n; held = holds k e (gives k n); ended = e }))
