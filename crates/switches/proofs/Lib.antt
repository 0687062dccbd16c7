-- `Months`: that a month past 12 is refused.
pub mod Months
