-- Laws that several proofs cite, here and in the crates above.
pub mod WordLaws
pub mod WordLists
pub mod NumberLaws
pub mod HexLaws
pub mod ColumnLaws
pub mod RoundTrips
pub mod TextLaws
