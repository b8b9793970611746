-- Laws that several proofs cite, and the worked examples.
pub mod Pieces
pub mod Lengths
pub mod Examples
