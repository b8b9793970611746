-- What the program says: the answer line, and the answer for a person.
pub mod Lines
pub mod Explained
