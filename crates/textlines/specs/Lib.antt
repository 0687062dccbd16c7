-- The lines of a text, in blocks that end anywhere. A reader's files are `Lines`, which says what the lines of a text are, and `Promise`, what is
-- held of an unfinished line and what a block adds to it. `One` shows that a text has one list of lines, and that the promises allow one result;
-- `Laws` has what the proofs need, and `Theorems` that the line buffer stands for the unfinished line, and how bytes that come in parts are cut into lines.
pub mod Lines
pub mod Promise
pub mod One
pub mod Laws
pub mod Theorems
