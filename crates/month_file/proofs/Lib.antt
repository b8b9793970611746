-- Laws that the crates above cite.
pub mod Opening
pub mod Accepted
pub mod Bodies
pub mod Grammar
pub mod Refusals
