-- The text of a date: the grammar and the first fault (`Grammar`), and what is promised in its words (`Promise`). `Reading` is the same by computing, and
-- `Usual` says that the usual text is read as any text is. The theorems on all of it stand in proofs/.
pub mod Grammar
pub mod Promise
pub mod Reading
pub mod Usual
