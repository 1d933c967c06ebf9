pub mod TickLaws
pub mod ClerkLaws
pub mod LineLaws
