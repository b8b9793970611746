-- docs/EVENTS.md: what is written of a file.
pub mod Refusals
pub mod Account
pub mod Statements
pub mod ByName
