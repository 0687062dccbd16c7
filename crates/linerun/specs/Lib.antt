-- The lines of a program's input, one a turn. A reader's files are `Promise`, which says what a turn comes to, and what a program that answers each line
-- by itself does then; and `Theorems`, which says that such a program writes the answers to the lines of its input, one under another. `One` shows that
-- each promise allows one result, and `Laws` has what the proofs need, here and in such a program.
pub mod Promise
pub mod Laws
pub mod One
pub mod Theorems
