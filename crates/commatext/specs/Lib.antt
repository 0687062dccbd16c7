-- Comma-separated text. A reader's files are `Grammar`, which is RFC 4180's grammar, `Contents`, what a text comes to, up to its end or its first fault,
-- and `Promise`, what is said of the record at the front of some bytes. `Theorems` says that the first two agree. `One` shows that a text comes to one
-- thing and that the promise allows one result, `Every` that every text comes to something. `Private` is what the private functions say; `Laws` and
-- `UnquoteLaws` have what the proofs need.
pub mod Grammar
pub mod Contents
pub mod Promise
pub mod Private
pub mod Laws
pub mod UnquoteLaws
pub mod One
pub mod Every
pub mod Theorems
