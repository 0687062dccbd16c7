-- The search for a byte. A reader's file is `Promise`: where a byte stands first. `One` shows that the promise allows one result, and `Laws` has
-- how bytes are passed one after another.
pub mod Promise
pub mod Laws
pub mod One
