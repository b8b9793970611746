-- Laws about reading a command.
pub mod Opened
pub mod Answers
pub mod Within
pub mod Examples
pub mod Fields
pub mod ReadBack
pub mod Written
pub mod SameTags
pub mod Words
