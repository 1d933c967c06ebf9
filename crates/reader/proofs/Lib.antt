pub mod AnswerLaws
pub mod Within
pub mod PartsLaws
