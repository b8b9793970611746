-- What a script is answered, line by line.
pub mod Reasons
pub mod Replies
pub mod Room
