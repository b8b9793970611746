-- The profiles of a card as a table.
pub mod Profiles
