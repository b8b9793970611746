-- docs/EVENTS.md, 'The file': its table of contents.
pub mod Below
pub mod Contents
pub mod Written
pub mod Statements
pub mod Examples
