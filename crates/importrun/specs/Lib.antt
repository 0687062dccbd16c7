-- A run of the import. `Promise` says how it starts and what a turn does; `Theorems` that a program that does what the turns say writes the import of
-- its catalogue and its input, in whatever parts these come. `One` shows that a promise allows one result, and `Laws` has what the proofs need.
pub mod Promise
pub mod Laws
pub mod One
pub mod Theorems
