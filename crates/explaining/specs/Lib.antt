-- An answer explained in English. A reader's files are `Patterns`, how a sentence with places for numbers, a name and a text is filled, and `Wording`, the
-- words of each reason, and `Paragraph`, what is written for a line. `Known` has known cases. `Promise` has what the functions ask for, `One` shows that
-- there is one paragraph, `Laws` and `LineLaws` have what the proofs need.
pub mod Patterns
pub mod Wording
pub mod Promise
pub mod Paragraph
pub mod Laws
pub mod LineLaws
pub mod One
pub mod Known
