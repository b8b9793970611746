-- The law that a file's text has room.
pub mod Within
