-- What the conversions promise: `Promise` in the words of the day-by-day definition, `Natural` for callers that hold days and years as
-- naturals, `Spots` for a day with its label. `One` shows that a promise allows one result; `Laws` goes from the arithmetic to the promises.
pub mod Promise
pub mod Natural
pub mod Spots
pub mod One
pub mod Laws
