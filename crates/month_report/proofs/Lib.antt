-- Laws that several proofs cite, and the proofs of the statements.
pub mod Lengths
pub mod Shown
pub mod LinesOff
pub mod ReadOff
