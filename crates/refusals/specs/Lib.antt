-- Refusals by their three numbers.
pub mod Promise
pub mod Passed
