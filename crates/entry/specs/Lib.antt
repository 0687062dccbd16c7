-- A line of a register. A reader's files are `Entry`, the name and the text of a line, and `Promise`, the answer to it. `One` shows that the promise
-- allows one result, `Laws` has the parts of a line, and `Theorems` says demand 3 of house calendars.
pub mod Entry
pub mod Promise
pub mod Laws
pub mod One
pub mod Theorems
