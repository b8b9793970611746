-- docs/EVENTS.md: the text of a report, plain and for a person, and what is read off it.
pub mod Report
pub mod Statements
pub mod ReadOff
