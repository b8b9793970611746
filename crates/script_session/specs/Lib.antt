-- A session as the code hands it out.
pub mod Session
