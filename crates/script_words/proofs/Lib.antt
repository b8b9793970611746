-- What the proofs of the functions share, and those of the crates above.
pub mod Within
pub mod Dashes
