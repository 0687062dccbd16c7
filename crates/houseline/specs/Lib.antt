-- A line of a catalogue. Reader's files are `Form`, of what parts a line is put together, and `Promise`, what reading it promises. `One` shows that a
-- line has the form in one way, and that the promise allows one result; `Laws` has how the parts are found, and `Theorems`, that every line has the
-- form or has it not.
pub mod Form
pub mod Promise
pub mod One
pub mod Laws
pub mod Theorems
