-- Laws of the loop over the events, and the proofs of the statements in specs/.
pub mod Turns
pub mod Opened
pub mod Splits
pub mod Events
pub mod Settled
pub mod Figures
pub mod Sums
pub mod Files
