-- What is promised of a time: its day and the seconds into it, in the words of the day-by-day definition; and what the calls promise: the rows of
-- the table of refusals that each can meet, in the table's order, and then its answer.
-- Assumes nothing.
use Rattle.std.specs.Prelude.{ℕ, ℤ, Result, Ok, Err, Option, Some, None}
use Rattle.days.specs.DayByDay.{Is32Bit, UnixTime}
use Rattle.calendar.specs.declared.Calendar.{Calendar}
use Rattle.calendar.specs.declared.Date.{Date}
use Rattle.calendar.specs.Calendars.{Accepted, IsRecord}
use Rattle.calendar.specs.Rows.{Unless}
use Rattle.calendar.specs.Promise.{refusal, made_up}
use Rattle.refusals.specs.declared.Refusal.{Refusal}

-- the time t lies on a day of 32 bits
pub record On32BitDay (t : ℤ) : Type 0 where
  pub on_day : ℤ
  pub seconds : ℕ
  pub day_fits : Is32Bit on_day
  pub is_time : UnixTime t on_day seconds

-- day_second: the day of the time t and the seconds into it; or the time lies on no day of 32 bits
pub data DaySecondOf (t : ℤ) : Option (ℤ × ℕ) → Type 0 where
  at : {n : ℤ} {s : ℕ} → Is32Bit n → UnixTime t n s → DaySecondOf t (Some (n, s))
  outside_32 : ¬ On32BitDay t → DaySecondOf t None

-- ---- The day and the date of a time

-- the day of the time t, and the seconds into it
pub data DayTimeOf (t : ℤ) : Result (ℤ × ℕ) Refusal → Type 0 where
  day_time_of : {n : ℤ} {s : ℕ} → UnixTime t n s → DayTimeOf t (Ok (n, s))

-- 17: seconds outside the range; its value is the time
abbrev pub refused_time : ℤ → Refusal
refused_time = refusal 17

-- unix2jdn: 17, or the day and the seconds
abbrev pub Unix2Jdn : ℤ → Result (ℤ × ℕ) Refusal → Type 0
Unix2Jdn t = Unless (On32BitDay t) (Err (refused_time t)) (DayTimeOf t)

-- the record of the day of the time t, and the seconds into it
pub data TimedOf (c : Calendar) (t : ℤ) : Result (Date × ℕ) Refusal → Type 0 where
  timed_of : {n : ℤ} {s : ℕ} {d : Date} → UnixTime t n s → IsRecord c n d → TimedOf c t (Ok (d, s))

-- at_unix_time: 16, 17, or the record and the seconds
abbrev pub AtUnixTime : Calendar → ℤ → Result (Date × ℕ) Refusal → Type 0
AtUnixTime c t = Unless (Accepted c) (Err made_up) (Unless (On32BitDay t) (Err (refused_time t)) (TimedOf c t))
