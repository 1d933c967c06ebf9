pub mod CodesLaws
pub mod TermsLaws
pub mod MeansLaws
