pub mod Letter
pub mod Carriers
pub mod Outcome
pub mod Sends
pub mod Steps
pub mod Ticked
