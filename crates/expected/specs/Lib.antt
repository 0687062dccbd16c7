-- What could have stood at a place of a date text. Reader's files are `Expected`, the definition, and `Promise`. `One` shows that the promise allows one
-- result, `Known` has known cases; `Numbers`, `Fronts` and `Faults` have what the proofs need: digits that go on, each front of a text, and what a fault
-- says of one.
pub mod Expected
pub mod Promise
pub mod One
pub mod Numbers
pub mod Fronts
pub mod Faults
pub mod Known
