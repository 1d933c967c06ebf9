pub mod WriteLaws
pub mod RoundTrip
pub mod CanonicalLaws
pub mod Claims
