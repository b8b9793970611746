-- The laws of framing, and of the rows of reading that every reader of commands has.
pub mod Opened
pub mod Classes
pub mod Headers
pub mod Frames
pub mod Rows
pub mod Answers
pub mod Framed
