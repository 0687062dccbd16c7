-- The columns of the listing, as the scope has them: the numbers that stand in the line of an answer, and the header over them.
use Rattle.std.specs.Prelude.{ℕ, ◌+◌, ◌*◌, List, Result, Ok, Err}
use Rattle.days.specs.DayByDay.{weekday}
use Rattle.calendar.specs.declared.Style.{Style}
use Rattle.calendar.specs.declared.Style.TheVariants as Style'
use Rattle.calendar.specs.declared.Date.{Date}
use Rattle.whole.specs.Text.{bytes}
use Rattle.linetext.specs.declared.LineNumbers.{LineNumbers}
use Rattle.refusals.specs.declared.Refusal.{Refusal}

-- the letters of a style as one number, the first and 256 times the second: `O` and `S` for old style, `N` and `S` for new,
-- `S` and `V` for the Swedish one
abbrev pub style_letters_value : Style → ℕ
style_letters_value Style'.Julian = 79 + 256 * 83
style_letters_value Style'.Gregorian = 78 + 256 * 83
style_letters_value Style'.Swedish = 83 + 256 * 86

-- the numbers in the line of a date: its weekday is that of its day number
abbrev pub numbers_of_value : Date → LineNumbers
numbers_of_value d = record { jdn = d.jdn; year = d.year; ordinal = d.ordinal; month = d.month; day = d.day; weekday = weekday d.jdn; style = style_letters_value d.style }

-- the line of an answer: the numbers of the date, or the refusal as it is
abbrev pub line_of : Result Date Refusal → Result LineNumbers Refusal
line_of (Ok d) = Ok (numbers_of_value d)
line_of (Err f) = Err f

unfoldable pub header : List ℕ
header = bytes "jdn\tyear\tordinal\tmonth\tday\tweekday\tstyle\n"
