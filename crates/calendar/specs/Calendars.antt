-- The calendars of the library, in the words of the day-by-day definition, and the record of a day.
use Rattle.std.specs.Prelude.{◌≡◌, Bool, true, false, ℤ}
use Rattle.days.specs.DayByDay as D
use Rattle.days.specs.DayByDay.{Label, label, Timeline, labels_in, style_in, Ordinal, DayOrdinal, JulianStyle, GregorianStyle, SwedishStyle}
use Rattle.calendar.specs.declared.Calendar.{Calendar}
use Rattle.calendar.specs.declared.Calendar.TheVariants.{Julian, Gregorian, Reforming}
use Rattle.calendar.specs.declared.Style.{Style}
use Rattle.calendar.specs.declared.Style.TheVariants as Style'
use Rattle.calendar.specs.declared.Date.{Date}

-- the calendar of the definition that it is
abbrev pub definition_of : Calendar → D.Calendar
definition_of Julian = D.Julian
definition_of Gregorian = D.Gregorian
definition_of (Reforming r) = D.Reforming r

abbrev pub timeline : Calendar → Timeline
timeline c = D.timeline (definition_of c)

-- the label of each day; which calendars are accepted, any other being made up; which labels are skipped
abbrev pub labels : Calendar → ℤ → Label
labels c = D.labels (definition_of c)

abbrev pub Accepted : Calendar → Type 0
Accepted c = D.Accepted (definition_of c)

abbrev pub Skipped : Calendar → Label → Type 0
Skipped c l = D.Skipped (definition_of c) l

-- the style that records name so
abbrev pub style_of : D.Style → Style
style_of JulianStyle = Style'.Julian
style_of GregorianStyle = Style'.Gregorian
style_of SwedishStyle = Style'.Swedish

-- d is the record of day n in the timeline t, which its records call c: calendar, style, year, ordinal, month, day, day ordinal, day number
pub record IsRecordIn (t : Timeline) (c : Calendar) (n : ℤ) (d : Date) : Type 0 where
  pub calendar_is : d.calendar ≡ c
  pub style_is : d.style ≡ style_of (style_in t n)
  pub label_is : labels_in t n ≡ label d.year d.month d.day
  pub ordinal_is : Ordinal (labels_in t) n d.ordinal
  pub day_ordinal_is : DayOrdinal (labels_in t) n d.day_ordinal
  pub day_is : d.jdn ≡ n

-- in the timeline of the calendar
abbrev pub IsRecord : Calendar → ℤ → Date → Type 0
IsRecord c = IsRecordIn (timeline c) c

-- a record is genuine if it is that of its day number in its accepted calendar; any other is made up
pub record Genuine (d : Date) : Type 0 where
  pub accepted : Accepted d.calendar
  pub is_record : IsRecord d.calendar d.jdn d

-- a calendar is reforming, or proleptic
abbrev pub is_reforming_value : Calendar → Bool
is_reforming_value Julian = false
is_reforming_value Gregorian = false
is_reforming_value (Reforming r) = true

-- one kind of label is another
abbrev pub same_style : D.Style → D.Style → Bool
same_style JulianStyle JulianStyle = true
same_style JulianStyle GregorianStyle = false
same_style JulianStyle SwedishStyle = false
same_style GregorianStyle JulianStyle = false
same_style GregorianStyle GregorianStyle = true
same_style GregorianStyle SwedishStyle = false
same_style SwedishStyle JulianStyle = false
same_style SwedishStyle GregorianStyle = false
same_style SwedishStyle SwedishStyle = true

-- whether the label of a record is of this kind
abbrev pub style_is_value : D.Style → Date → Bool
style_is_value s d = same_style s (D.style (definition_of d.calendar) d.jdn)
