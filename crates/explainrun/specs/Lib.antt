-- A run of the explanation. A reader's files are `Explanation`, what is written for a catalogue and an input, and `Theorems`, that a run writes just that.
-- `Promise` says how it starts and what a turn does; `One` shows that each allows one result.
pub mod Promise
pub mod Explanation
pub mod One
pub mod Laws
pub mod Theorems
