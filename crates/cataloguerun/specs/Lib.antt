-- A program's catalogue, read before its input. `Promise` says how it is read and what is said of it, and `One` that this allows one result.
-- `Theorems` says that a file read to its end comes to its meaning. `Laws` has what the proofs need.
pub mod Promise
pub mod Laws
pub mod One
pub mod Theorems
