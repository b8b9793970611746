-- Laws that several proofs cite, here and in the crates above.
pub mod Rows
pub mod Lengths
pub mod Parts
pub mod Examples
