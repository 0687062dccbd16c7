-- That `Reading` computes what the grammar says (`Laws`); that a promise allows one answer (`One`); the theorems on the text of a date (`Theorems`); and
-- single texts (`Known`).
pub mod Laws
pub mod One
pub mod Theorems
pub mod Known
