-- Names in lent memory. A reader's files are `Limits` and `Promise`: what memory stands for, and what finding and entering a name promise. `Hash` is
-- which chain a name belongs to; nothing is said of it but that it is one number for each name. `One` shows that the promises allow one result.
-- `Holds` says of which memory it is true that it holds a list of names with their numbers (`Houses`), and `Theorems`, that a name is then found
-- exactly if the list has it, and that entering keeps this. `HashLaws`, `Words` and `Laws` have what the proofs need.
pub mod Limits
pub mod Hash
pub mod Promise
pub mod One
pub mod HashLaws
pub mod Words
pub mod Laws
pub mod Houses
pub mod Holds
pub mod Theorems
