-- The laws of what is read.
pub mod Opened
pub mod Parts
pub mod Branches
pub mod Inside
pub mod Counts
pub mod Fills
pub mod Examples
pub mod Windows
pub mod Fronts
pub mod Written
pub mod ReadBack
