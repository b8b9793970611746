-- Laws that the crates above cite.
pub mod Below
pub mod Ends
pub mod Refusals
pub mod Entries
pub mod Laid
pub mod Examples
pub mod TwoSections
