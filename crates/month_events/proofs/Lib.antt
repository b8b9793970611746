-- Laws that the crates above cite.
pub mod Opened
pub mod Turns
pub mod Numbers
pub mod Written
pub mod Logged
pub mod Examples
