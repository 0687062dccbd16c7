-- Whether two dates agree in their numbers. A reader's file is `Promise`. `One` shows that the promise allows one answer, and `Laws` has what the proof needs.
pub mod Promise
pub mod One
pub mod Laws
