pub mod Choice
pub mod Lists
pub mod OneResult
pub mod Parts
pub mod WordsLaws
