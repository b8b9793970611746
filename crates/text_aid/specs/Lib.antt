-- AIDs as text.
pub mod AidText
