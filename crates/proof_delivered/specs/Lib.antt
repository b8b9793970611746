-- What is delivered, as one record: README's table, checked and not only written.
pub mod Delivered
