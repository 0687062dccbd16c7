-- What the calendar calls promise. A reader's files are `Calendars` (the record of a day), `Rows` (how the rows of refusals are put together) and
-- `Promise` (the promise of each call). `RowLaws` has what rows come to, `One` that a promise allows one result, `Theorems` what follows for dates,
-- `Answered` that every date of a 32-bit year has an answer.
-- `Natural` has what the private functions say, and `Laws` goes from there to the promises. `InMonth` is about the next day of a month.
pub mod Calendars
pub mod Rows
pub mod Promise
pub mod RowLaws
pub mod One
pub mod Natural
pub mod Laws
pub mod InMonth
pub mod Theorems
pub mod Answered
