-- Document 01, 'The card': the places and the searches over them.
pub mod Places
pub mod Hashes
