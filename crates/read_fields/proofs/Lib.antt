-- The laws of the data fields.
pub mod Left
pub mod Opened
pub mod Cases
pub mod Parts
pub mod StoreDataGrammar
pub mod DeletionGrammar
pub mod ListedTags
pub mod ListingGrammar
pub mod Examples
