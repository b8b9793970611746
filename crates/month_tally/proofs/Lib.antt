-- Laws that several proofs cite, and the proof of the statements.
pub mod Records
pub mod Seeking
pub mod Noting
pub mod Minutes
pub mod InOrder
