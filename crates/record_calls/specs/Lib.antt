-- What a call with a response promises of the buffer lent for it.
pub mod Into
