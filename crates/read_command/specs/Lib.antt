-- Document 01, 'Reading a command'.
pub mod Requests
pub mod Reading
pub mod Grammar
pub mod Words
