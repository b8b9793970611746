-- Document 01, 'Status words': the numbers, and what "in this order" means.
pub mod StatusWords
pub mod Rows
