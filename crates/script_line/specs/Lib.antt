-- What a line of a script means.
pub mod Orders
pub mod Fits
