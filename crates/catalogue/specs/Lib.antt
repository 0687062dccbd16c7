-- House calendars by name. A reader's file is `Catalogue`: which bytes are a catalogue, what calendars it gives, and else which of its lines is
-- refused first, without a reader. `Promise` is what the functions promise, over any contents of the lent memory. `One` and `Theorems` have what the
-- files of the same names in proofs/ speak of.
pub mod Catalogue
pub mod Promise
pub mod One
pub mod Theorems
