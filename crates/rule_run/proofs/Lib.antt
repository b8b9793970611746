-- Laws of every call: the table over what was read, soundness kept, the longest response, what a refusal and an accepted call hand back, and
-- that a change of the enabled profile is notified.
pub mod Updates
pub mod Readings
pub mod Kept
pub mod Runs
pub mod Short
pub mod Words
pub mod Taken
pub mod Notified
