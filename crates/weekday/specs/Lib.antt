-- The weekday of a day number. A reader's file is `Promise`; the promise is an equation, and so allows one result.
pub mod Promise
