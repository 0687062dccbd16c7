-- The days of a month as runs. The reader's file is `Promise`; `One` shows that the promise allows one result, and `Known` has known months.
-- `Natural` has what the private functions say, and `Laws` goes from there to the promise.
pub mod Promise
pub mod One
pub mod Known
pub mod Natural
pub mod Laws
