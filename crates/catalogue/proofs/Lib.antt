-- `One` shows that a file means one thing and that each promise allows one result; `Laws` is what the proofs need; `Theorems`, what follows for a user.
pub mod One
pub mod Laws
pub mod Theorems
