-- `Claims` is what holds of every step at the face; `OneResult` says that its promises allow one result.
pub mod Claims
pub mod OneResult
