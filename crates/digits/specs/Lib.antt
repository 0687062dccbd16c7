-- Digits in text: what they are and write (`Numerals`), what the calls promise (`Promise`), and that both agree: for a run of digits (`Runs`), and for one
-- digit and two (`Few`).
pub mod Numerals
pub mod Promise
pub mod Runs
pub mod Few
