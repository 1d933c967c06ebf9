pub mod RowsLaws
pub mod Searches
pub mod Removal
pub mod Decoded
