-- What the walkers promise. A reader's file is `Promise`; `One` shows that a promise allows one result, and `Theorems` what a walker gives
-- over any number of calls, and that the genuine walkers are those that accepted calls give. `Private` has
-- what a private function says, and `Laws` goes from a step on day numbers and the answers of the calendar to the promises.
pub mod Promise
pub mod One
pub mod Private
pub mod Laws
pub mod Theorems
