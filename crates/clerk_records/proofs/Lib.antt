pub mod RecordsLaws
pub mod MeaningLaws
pub mod DeadlinesLaws
pub mod TimersLaws
