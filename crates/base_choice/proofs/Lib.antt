-- The rules of a choice, and of rows in order.
pub mod Branches
pub mod Rows
