-- Text in bytes: what its words, numbers, byte strings and columns are.
pub mod Letters
pub mod Words
pub mod Numbers
pub mod Hex
pub mod Columns
pub mod RoundTrips
