-- The sums of the programs that count instructions. A reader's file is `Promise`.
pub mod Promise
pub mod One
