-- Laws that several proofs cite: of the loops, of the searches, of switching, and of what steps keep.
pub mod Opened
pub mod Library
pub mod Turns
pub mod Seeks
pub mod Switching
pub mod Records
pub mod Lives
pub mod Sets
pub mod Numbered
pub mod Hashes
