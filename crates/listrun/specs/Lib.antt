-- A run of the listing, turn by turn. `Promise` says what a turn does, and `One` that it allows one result. `Theorems` says that a program that does
-- what the turns say writes the listing of its input, however that comes, and that no block holds it for ever. `Laws` has what the proofs need.
pub mod Promise
pub mod Laws
pub mod One
pub mod Theorems
