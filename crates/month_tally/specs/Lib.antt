-- docs/EVENTS.md, 'The report': the lines.
pub mod Lines
pub mod Statements
