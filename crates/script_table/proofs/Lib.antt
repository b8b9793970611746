-- Laws that several proofs cite, and how wide the table is.
pub mod Pieces
pub mod Lengths
pub mod Columns
