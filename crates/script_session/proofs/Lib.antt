-- Laws that several proofs cite: the bytes that a line spells and a call's response in the buffers lent, and outcomes without a response.
pub mod Spelled
pub mod Silent
