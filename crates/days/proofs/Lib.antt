-- The calendars as mathematics. A reader's files are the first three.

-- The definition, computed near the known labels, and at the known days.
pub mod Examples
pub mod KnownDays
-- Any labelling of the days that rises, and any timeline that does.
pub mod LabelOrder
pub mod RisingLabels
pub mod RisingSpans
pub mod RisingTimelines
pub mod RisingPlaces
pub mod RisingDecided
-- One reckoning, day by day.
pub mod ReckoningSteps
pub mod ReckoningLabels
-- Closed forms: days and years as biased natural numbers, and the label of a day by arithmetic on them.
pub mod ClosedYear
pub mod ClosedMonths
pub mod ClosedDivides
pub mod ClosedStarts
pub mod ClosedJulian
pub mod ClosedGregorian
pub mod ClosedCenturies
pub mod ClosedRange
pub mod ClosedNumbers
pub mod ClosedRuns
pub mod ClosedWeekdays
pub mod ClosedEnds
-- Which reformations are accepted, and what every accepted calendar has.
pub mod ReformationTable
pub mod AcceptedCalendars
pub mod AcceptedYears
-- Which labels can be skipped.
pub mod SkippedLabels
-- The Swedish calendar: that it rises, and its months.
pub mod Swedish
pub mod SwedishMonths
