-- The words of a line of a script that follow its first.
pub mod Ascii
pub mod Arguments
pub mod Words
