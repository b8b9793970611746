-- What the lines of an input are, and the window that hands them out.
pub mod Lines
pub mod Window
pub mod Cuts
