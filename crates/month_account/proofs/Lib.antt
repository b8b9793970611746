-- Laws that the proofs cite, and the proofs of the statements in specs/.
pub mod Lengths
pub mod Told
pub mod ByName
