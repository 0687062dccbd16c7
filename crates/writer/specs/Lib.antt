-- What is written into a lent buffer. A reader's file is `Promise`. `One` shows that a promise allows one result, and `Theorems` where the text of a date
-- stands and how long it is at most. `Laws` has what the proofs need; what it needs of `put` stands in `proofs`, in `PutLaws`.
pub mod Promise
pub mod Laws
pub mod One
pub mod Theorems
