-- Document 01, 'Reading a command', first two paragraphs: what a command is before its data field is read.
pub mod Framing
pub mod Classes
pub mod Frame
pub mod Rows
pub mod Headers
