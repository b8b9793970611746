-- What an order promises, examples, and what the functions' goals unfold.
pub mod Opened
pub mod Fits
pub mod Examples
