-- What the calls on Unix time promise. A reader's file is `Promise`. `One` shows that a promise allows one result, and `Theorems` which times are on
-- days of 32 bits and that a day comes back from its first second. `Laws` goes from seconds that are biased as naturals to the promises.
pub mod Promise
pub mod Laws
pub mod One
pub mod Theorems
