pub mod EntryLaws
pub mod StartLaws
pub mod StepsLaws
pub mod TickLaws
