-- A program that reads blocks and writes as it goes. `Promise` says what each phase does next, and what has happened since the last
-- call. `One` shows that a promise allows one result, and `Laws` has what the proofs need.
pub mod Promise
pub mod Laws
pub mod One
