-- How a reader moves. A reader's file is `Promise`, and `One` shows that a promise allows one result.
pub mod Promise
pub mod One
