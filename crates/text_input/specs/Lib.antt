-- What a read leaves in a window of lines, and what a program's input has left.
pub mod Filled
pub mod Inputs
