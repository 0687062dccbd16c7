-- The calendars by name. A reader's files are `Table`, which stands beside `ncal.rs`, and `Promise`. `One` shows that the names are distinct and that the
-- promise allows one result, and `Theorems` that every calendar of the table is accepted.
-- `Search` has what the private functions say, and `Laws` goes from there to the promise. `Every` has how one test shows all entries of a table.
pub mod Table
pub mod Promise
pub mod Every
pub mod Search
pub mod Laws
pub mod One
pub mod Theorems
