-- A catalogue read in blocks. A reader's file is `Promise`: what a block adds to what has been read, and what the end of the file does. `One` shows
-- that the promises allow one result; `Theorems`, that in whatever parts a file is read, it comes to its meaning; `Laws` has what the proofs need.
pub mod Promise
pub mod One
pub mod Laws
pub mod Theorems
