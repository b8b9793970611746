-- docs/EVENTS.md, 'The file': the events.
pub mod Kinds
pub mod Events
pub mod Numbers
pub mod Written
pub mod Logged
pub mod Examples
