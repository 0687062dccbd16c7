-- The words of an explanation: the sentence of each reason, as a pattern with its numbers, and what follows it.
use Rattle.std.specs.Prelude.{ℕ, zero, suc, ◌+◌, Bool, true, false, cond, ◌||◌, List, [], ◌∷◌, ◌++◌, ltb, eqb, ℤ, pos}
use Rattle.whole.specs.Text.{bytes, newline}
use Rattle.calendar.specs.declared.Date.{Date}
use Rattle.calendar.specs.declared.Style.{Style}
use Rattle.calendar.specs.declared.Style.TheVariants as Style'
use Rattle.monthruns.specs.declared.Runs.{Runs}
use Rattle.monthruns.specs.declared.Runs.TheVariants.{Nothing, One, Two}
use Rattle.expected.specs.declared.Expected.{Expected}
use Rattle.reasons.specs.declared.Reason.{Reason}
use Rattle.reasons.specs.declared.Reason.TheVariants.{Accepted, MadeUp, Faulty, Missing, Skipped, OffYear, Outside}
use Rattle.explaining.specs.Patterns.{shown, Filled}

-- ---- what could have stood at a place

-- the first so many of the digits `0` to `9`
unfoldable pub digit_words : ℕ → List ℕ
digit_words n = cond (eqb n 0) [] (cond (eqb n 1) (bytes "the digit 0") (cond (ltb n 10) (bytes "a digit 0 to " ++ ((47 + n) ∷ [])) (bytes "a digit")))

-- a word, where its choice holds: after ` or ` exactly if a choice was named before it
abbrev pub further : Bool → Bool → List ℕ → List ℕ
further named holds word = cond holds (cond named (bytes " or " ++ word) word) []

unfoldable pub choices : Expected → List ℕ
choices e =
    digit_words e.digits
    ++ (further (ltb 0 e.digits) e.dash (bytes "\"-\"")
    ++ (further (ltb 0 e.digits || e.dash) e.plus (bytes "\"+\"") ++ further ((ltb 0 e.digits || e.dash) || e.plus) e.ends (bytes "the end")))

-- ---- the picture of a text at fault: the text, and under it a `^` at the place

unfoldable pub spaces : ℕ → List ℕ
spaces zero = []
spaces (suc n) = 32 ∷ spaces n

unfoldable pub picture : List ℕ → ℕ → List ℕ
picture text place = spaces 4 ++ (shown text ++ (newline ∷ (spaces (4 + place) ++ bytes "^\n")))

-- ---- the patterns, each with its newline but for those of a faulty text

unfoldable pub accepted_pattern : Style → Bool → List ℕ
accepted_pattern Style'.Julian true = bytes "~ in @ is #-#-#, day #. The Julian rule applied, and # is a leap year under that rule.\n"
accepted_pattern Style'.Julian false = bytes "~ in @ is #-#-#, day #. The Julian rule applied, and # is no leap year under that rule.\n"
accepted_pattern Style'.Gregorian true = bytes "~ in @ is #-#-#, day #. The Gregorian rule applied, and # is a leap year under that rule.\n"
accepted_pattern Style'.Gregorian false = bytes "~ in @ is #-#-#, day #. The Gregorian rule applied, and # is no leap year under that rule.\n"
accepted_pattern Style'.Swedish true = bytes "~ in @ is #-#-#, day #. The Julian rule applied, and # is a leap year under that rule.\n"
accepted_pattern Style'.Swedish false = bytes "~ in @ is #-#-#, day #. The Julian rule applied, and # is no leap year under that rule.\n"

unfoldable pub made_up_pattern : List ℕ
made_up_pattern = bytes "~ was not read: the calendar @ was made up.\n"

unfoldable pub missing_pattern : Runs → List ℕ
missing_pattern Nothing = bytes "~ is no date in @: the month #-# has no days there.\n"
missing_pattern (One a) = bytes "~ is no date in @: the month #-# has the days # to # there.\n"
missing_pattern (Two a b) = bytes "~ is no date in @: the month #-# has the days # to # and # to # there.\n"

unfoldable pub skipped_pattern : List ℕ
skipped_pattern = bytes "~ was skipped in @: #-#-# (day #) was followed by #-#-# (day #).\n"

unfoldable pub off_year_pattern : List ℕ
off_year_pattern = bytes "~ is no date in @: a single number after the year counts its days, and the year # has # days there.\n"

unfoldable pub outside_pattern : Bool → List ℕ
outside_pattern true = bytes "~ is too late in @: its day number would be above 2147483647.\n"
outside_pattern false = bytes "~ is too early in @: its day number would be below -2147483648.\n"

-- a number that leaves its range, in a year or elsewhere
unfoldable pub range_pattern : Bool → List ℕ
range_pattern true = bytes "\"~\" is no date in @: the year leaves its range, -2147483648 to 2147483647, at place #"
range_pattern false = bytes "\"~\" is no date in @: the number leaves its range, 0 to 4294967295, at place #"

-- by the number of the refusal, and by whether the fault is one of the year
unfoldable pub other_fault_pattern : ℕ → Bool → List ℕ
other_fault_pattern n y =
    cond (eqb n 11) (range_pattern y)
    (cond (eqb n 28) (range_pattern y)
    (cond (eqb n 12) (bytes "\"~\" is no date in @: no \"-\" stands at place #")
    (cond (eqb n 13) (bytes "\"~\" is no date in @: it ends after the year, at place #")
    (bytes "\"~\" is no date in @: it goes on after the day, at place #"))))

unfoldable pub fault_pattern : ℕ → Bool → List ℕ
fault_pattern n y =
    cond (eqb n 3) (bytes "\"~\" is no date in @: the month at place # is #, and a month is 1 to 12")
    (cond (eqb n 8) (bytes "\"~\" is no date in @: it ends at place #, where a number has to stand")
    (cond (eqb n 9) (bytes "\"~\" is no date in @: a number has to stand at place #")
    (cond (eqb n 10) (bytes "\"~\" is no date in @: a digit has to follow the sign, at place #")
    (other_fault_pattern n y))))

-- ---- the sentence of a reason, and its numbers

abbrev pub sentence : Reason → List ℕ
sentence (Accepted date leap) = accepted_pattern date.style leap
sentence MadeUp = made_up_pattern
sentence (Faulty why in_year_value place expected) = fault_pattern why.number in_year_value
sentence (Missing why year month days) = missing_pattern days
sentence (Skipped why before after) = skipped_pattern
sentence (OffYear why year length) = off_year_pattern
sentence (Outside why above) = outside_pattern above

abbrev pub day_numbers : Date → List ℤ
day_numbers d = d.year ∷ pos d.month ∷ pos d.day ∷ d.jdn ∷ []

abbrev pub run_numbers : Runs → List ℤ
run_numbers Nothing = []
run_numbers (One a) = pos a.first ∷ pos a.last ∷ []
run_numbers (Two a b) = pos a.first ∷ pos a.last ∷ pos b.first ∷ pos b.last ∷ []

abbrev pub numbers_of_value : Reason → List ℤ
numbers_of_value (Accepted date leap) = day_numbers date ++ (date.year ∷ [])
numbers_of_value MadeUp = []
numbers_of_value (Faulty why in_year_value place expected) = pos place ∷ why.value ∷ []
numbers_of_value (Missing why year month days) = year ∷ pos month ∷ run_numbers days
numbers_of_value (Skipped why before after) = day_numbers before ++ day_numbers after
numbers_of_value (OffYear why year length) = year ∷ pos length ∷ []
numbers_of_value (Outside why above) = []

-- ---- what follows it: of a faulty text what could have stood there, except for a month out of its range, and the picture

unfoldable pub fault_end : List ℕ → ℕ → ℕ → Expected → List ℕ
fault_end text number place expected = cond (eqb number 3) [] (bytes "; there could stand " ++ choices expected) ++ (bytes ".\n" ++ picture text place)

abbrev pub follows : List ℕ → Reason → List ℕ
follows text (Accepted date leap) = []
follows text MadeUp = []
follows text (Faulty why in_year_value place expected) = fault_end text why.number place expected
follows text (Missing why year month days) = []
follows text (Skipped why before after) = []
follows text (OffYear why year length) = []
follows text (Outside why above) = []

-- ---- the paragraph of a reason, for a name of a calendar and a date text

pub data Says (name text : List ℕ) (reason : Reason) : List ℕ → Type 0 where
  says : {t : List ℕ} → Filled name text (sentence reason) (numbers_of_value reason) t → Says name text reason (t ++ follows text reason)

-- ---- two paragraphs that have no reason: of a name that no calendar has, and of a line that is too long

unfoldable pub unknown_pattern : List ℕ
unknown_pattern = bytes "\"@\" is not the name of a calendar, neither of a built-in one nor of one in the catalogue. A name is all that stands before the first tab of a line.\n"

unfoldable pub long_line : List ℕ
long_line = bytes "The line has more than 512 bytes, and is not read.\n"
