pub mod LetterLaws
pub mod CarriersLaws
