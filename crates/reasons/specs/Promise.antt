-- What holds for each reason: of the calendar, in the words of the day-by-day definition; of the text, in those of the grammar. No reason is said by what
-- another is not, but for 4, which is said so in the scope.
use Rattle.std.specs.Prelude.{◌≡◌, Bool, true, false, cond, List, ◌⊎◌, ℕ, suc, ◌<◌, eqb, ℤ, pos, negsuc, ◌-ℤ◌, take, ◌<ℤ◌}
use Rattle.whole.specs.Whether.{Whether}
use Rattle.refusals.specs.declared.Refusal.{Refusal}
use Rattle.refusals.specs.Promise.{refusal}
use Rattle.days.specs.DayByDay.{Label, label, Timeline, labels_in, LeapRule, julian_leap, gregorian_leap, OfYear, Place, YearLength, Is32Bit, SkippedIn, MissingIn}
use Rattle.calendar.specs.declared.Calendar.{Calendar}
use Rattle.calendar.specs.declared.Style.{Style}
use Rattle.calendar.specs.declared.Style.TheVariants as Style'
use Rattle.calendar.specs.declared.Date.{Date}
use Rattle.calendar.specs.Calendars.{timeline, Accepted, IsRecordIn}
use Rattle.numbertext.specs.Numerals.{NoSigned}
use Rattle.datetext.specs.Grammar.{OrdinalText, YmdText, Fault}
use Rattle.expected.specs.declared.Expected.{Expected}
use Rattle.expected.specs.Promise.{Expects}
use Rattle.monthruns.specs.declared.Runs.{Runs}
use Rattle.monthruns.specs.Promise.{HasRuns}
use Rattle.reasons.specs.declared.Reason.{Reason}
use Rattle.reasons.specs.declared.Reason.TheVariants as Reason'

-- ---- A day that is found

-- the rule of a style: which years are leap under it
abbrev pub rule_of : Style → LeapRule
rule_of Style'.Julian = julian_leap
rule_of Style'.Gregorian = gregorian_leap
rule_of Style'.Swedish = julian_leap

-- the day n lies above the 32-bit days, or below them
abbrev pub Passes : Bool → ℤ → Type 0
Passes true n = pos 2_147_483_647 <ℤ n
Passes false n = n <ℤ negsuc 2_147_483_647

-- of the day n of the year y in the timeline t, which its records call c: its record, whose style names the rule, and whether its year is leap under
-- that rule; or 7, and which end of the 32-bit days it passes
pub data OnDay (t : Timeline) (c : Calendar) (y n : ℤ) : Reason → Type 0 where
  accepted : {d : Date} → Is32Bit n → IsRecordIn t c n d → OnDay t c y n (Reason'.Accepted d (rule_of d.style d.year))
  outside : {above : Bool} → Passes above n → OnDay t c y n (Reason'.Outside (refusal 7 0 y) above)

-- ---- A year, a month and a day, which stands at the place k of a text

-- the label l was skipped at a switch: the record of the last day before it, and that of its first day
pub record Gap (t : Timeline) (c : Calendar) (l : Label) (before after : Date) : Type 0 where
  pub skipped : SkippedIn t l
  pub last_before : IsRecordIn t c (skipped.switch -ℤ pos 1) before
  pub first_after : IsRecordIn t c skipped.switch after

-- 4 and the days that the month has; 5 and the days on both sides of the gap; or the day that bears the label
pub data OfYmd (t : Timeline) (c : Calendar) (y : ℤ) (m d k : ℕ) : Reason → Type 0 where
  missing : {r : Runs} → MissingIn t (label y m d) → HasRuns (labels_in t) y m r → OfYmd t c y m d k (Reason'.Missing (refusal 4 k (pos d)) y m r)
  skipped : {before after : Date} → Gap t c (label y m d) before after → OfYmd t c y m d k (Reason'.Skipped (refusal 5 k (pos d)) before after)
  borne : {n : ℤ} {r : Reason} → labels_in t n ≡ label y m d → OnDay t c y n r → OfYmd t c y m d k r

-- ---- A year and an ordinal, which stands at the place k of a text

-- 6 and the length of the year; or the day that has this place in it
pub data OfOrdinal (t : Timeline) (c : Calendar) (y : ℤ) (o k : ℕ) : Reason → Type 0 where
  off_year : {length : ℕ} → YearLength (labels_in t) y length → (o ≡ 0) ⊎ (length < o) → OfOrdinal t c y o k (Reason'.OffYear (refusal 6 k (pos o)) y length)
  in_year : {n : ℤ} {r : Reason} → OfYear y (labels_in t n) → Place (λ d. OfYear y (labels_in t d)) n o → OnDay t c y n r → OfOrdinal t c y o k r

-- ---- A text

-- where something else could have stood: at the place of the fault; for 10, which has the place of the sign, at the one after it
abbrev pub mended_at_value : Refusal → ℕ
mended_at_value f = cond (eqb f.number 10) (suc f.place) f.place

-- the first fault of the text s: whether it is one of the year, and what could have stood there
pub data OfFault (s : List ℕ) : Reason → Type 0 where
  at_fault : {f : Refusal} {of_year : Bool} {e : Expected} → Fault s f → Whether (NoSigned 0 s f) of_year → Expects (take (mended_at_value f) s) e → OfFault s (Reason'.Faulty f of_year (mended_at_value f) e)

-- THE REASON for the answer to a calendar and a text
pub data Explains (c : Calendar) (s : List ℕ) : Reason → Type 0 where
  made_up : ¬ Accepted c → Explains c s Reason'.MadeUp
  faulty : {r : Reason} → Accepted c → OfFault s r → Explains c s r
  by_ymd : {y : ℤ} {m d k : ℕ} {r : Reason} → Accepted c → YmdText s y m d k → OfYmd (timeline c) c y m d k r → Explains c s r
  by_ordinal : {y : ℤ} {o k : ℕ} {r : Reason} → Accepted c → OrdinalText s y o k → OfOrdinal (timeline c) c y o k r → Explains c s r
