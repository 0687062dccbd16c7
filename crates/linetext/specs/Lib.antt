-- A line of the listing. A reader's files are `Line`, which text its numbers make, and `Promise`. `One` shows that each promise allows one result, and `Laws`
-- has how texts are put together in a buffer.
pub mod Line
pub mod Promise
pub mod Laws
pub mod One
