-- Laws that the crates above cite.
pub mod Alike
pub mod Rest
pub mod PutLaws
