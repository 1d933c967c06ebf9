pub mod Reading
pub mod NumberLaws
pub mod NumberBack
pub mod RangeLaws
pub mod CopiedLaws
pub mod IdentifierLaws
