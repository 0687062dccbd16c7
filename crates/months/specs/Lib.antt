-- What the year and month calls promise. A reader's files are `Promise`, the promise of each call, and `Theorems`, what follows from them.
-- `One` shows that a promise allows one result. `Natural` has what the private functions say, and `Laws` goes from there to the promises.
pub mod Promise
pub mod One
pub mod Theorems
pub mod Natural
pub mod Laws
