-- Laws that several proofs cite: what the types tell, what may be deleted, soundness by parts and kept, the count of ticks, what a step tells, what every answer keeps.
pub mod Opened
pub mod Records
pub mod Numbers
pub mod Sounds
pub mod Free
pub mod Counts
pub mod Waits
pub mod Deletions
pub mod Rewrites
pub mod Noticed
pub mod Outcomes
pub mod Freshness
pub mod Policies
pub mod Clauses
