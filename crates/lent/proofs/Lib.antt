-- `OneResult` says that the promises of the functions here allow one result.
pub mod OneResult
