-- Laws that the proofs need, and those of the crates above.
pub mod PutLaws
