-- The import. A reader's files are `Import`, which says what is written for a catalogue and a text, and `Theorems`, which says that the calls write just
-- that however the text comes. `Promise` says what a call does. `One` shows that each promise allows one result, and `Laws` has what the proofs need.
pub mod Import
pub mod Promise
pub mod Laws
pub mod One
pub mod Theorems
