-- Laws that the proofs cite.
pub mod ArrivalLaws
pub mod FillLaws
