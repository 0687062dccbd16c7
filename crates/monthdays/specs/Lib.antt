-- The days of a year and of its months. A reader's file is `Promise`. `One` shows that a promise allows one result; `Laws` goes from the arithmetic to
-- the promises.
pub mod Promise
pub mod One
pub mod Laws
