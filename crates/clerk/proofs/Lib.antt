pub mod StepsLaws
pub mod TickLaws
