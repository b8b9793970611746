-- What the proofs of the functions share, and that their promise has one answer.
pub mod Accepted
pub mod Targets
pub mod Asking
pub mod Unique
