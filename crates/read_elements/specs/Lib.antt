-- Document 01, 'Reading a command': a data field and a position in it.
pub mod Reader
