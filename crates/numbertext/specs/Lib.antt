-- Numbers in text: what they are (`Numerals`), what the calls promise (`Promise`), that a promise allows one result (`One`), the same by computing
-- (`Reading`), which case holds at an offset (`Places`), that both agree (`Meaning`), and numbers at the ends of a range (`Known`).
pub mod Numerals
pub mod Promise
pub mod Reading
pub mod Places
pub mod Meaning
pub mod One
pub mod Known
