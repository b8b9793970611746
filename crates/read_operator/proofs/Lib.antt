-- Laws about reading a policy update.
pub mod Opened
pub mod Answers
pub mod Examples
pub mod UpdateGrammar
pub mod Words
