-- docs/EVENTS.md, 'The report': the events counted, and what the count says.
pub mod Month
pub mod Loop
pub mod Statements
