-- Laws that several proofs cite, here and in the crates above, and the theorem that lines do not depend on reads (`Cuts`).
pub mod Opened
pub mod WindowLaws
pub mod LineLaws
pub mod Hands
pub mod Cuts
