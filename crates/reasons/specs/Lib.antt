-- Why a date text is accepted or refused. A reader's files are `Promise`, which says what holds of the calendar or of the text for each reason, and
-- `Theorems`: exactly one reason holds, and it is that of `parse_date`. `Laws` has what the proofs need.
pub mod Promise
pub mod One
pub mod Theorems
pub mod Laws
