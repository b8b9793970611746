-- Laws about create's data field.
pub mod Opened
pub mod Inside
pub mod Listing
pub mod Numbers
pub mod Written
pub mod ReadBack
