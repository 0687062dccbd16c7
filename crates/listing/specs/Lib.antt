-- The listing. A reader's files are `Lines`, which says what is written for a catalogue and an input, and `Theorems`, which says that the calls write
-- just that however the input comes. `Promise` says what a call does with a block and with the line that is held. `One` shows that each
-- promise allows one result, and `Laws` has what the proofs need.
pub mod Lines
pub mod Promise
pub mod Laws
pub mod One
pub mod Theorems
