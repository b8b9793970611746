-- Laws that several proofs cite: the rows passed, a change opened, a profile made or written anew, and every step
-- keeps a sound card sound.
pub mod Rows
pub mod Successes
pub mod Listed
pub mod Opens
pub mod Creates
pub mod Inner
pub mod Kept
pub mod Laws
