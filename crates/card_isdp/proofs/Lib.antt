-- Laws that several proofs cite.
pub mod Opened
pub mod Bools
pub mod Bytes
pub mod Policies
pub mod Records
pub mod Alike
pub mod Placed
pub mod Clauses
