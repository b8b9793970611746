-- What the proofs of the functions share.
pub mod Names
pub mod PlaceList
pub mod Examples
