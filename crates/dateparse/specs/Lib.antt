-- Dates from text and text from dates: what the two calls promise (`Promise`), that a promise allows one result (`One`), what is demanded for every
-- calendar and every text (`EveryText`), that what is written is read back (`ReadBack`), and that the demand is met (`Theorems`).
pub mod Promise
pub mod One
pub mod EveryText
pub mod Laws
pub mod ReadBack
pub mod Theorems
