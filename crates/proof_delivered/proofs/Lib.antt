-- The proof of the one list.
pub mod Delivered
