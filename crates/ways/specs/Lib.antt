-- The ways of walkers. A reader's file is `Promise`. `One` shows that a promise allows one answer, and `Laws` has what the proofs go by.
pub mod Promise
pub mod One
pub mod Laws
