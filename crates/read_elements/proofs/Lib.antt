-- The laws of an element alone in its window.
pub mod Alone
