pub mod RecordsLaws
pub mod LinesLaws
pub mod ChangeLaws
pub mod SearchLaws
pub mod MeaningLaws
pub mod DeadlinesLaws
pub mod GuardsLaws
