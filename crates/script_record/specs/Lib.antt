-- The record that a `card` line of a script hands in.
pub mod Colons
pub mod Records
