-- The columns of the listing. A reader's files are `Columns`, the numbers that stand in the line of an answer and the header over them, and `Promise`. `One` shows
-- that each promise allows one result, `Known` which letters a style has, and `Laws` why the functions meet their promises.
pub mod Columns
pub mod Promise
pub mod Laws
pub mod One
pub mod Known
