-- Laws that several proofs cite: what a call answers, over the buffer lent.
pub mod Buffers
