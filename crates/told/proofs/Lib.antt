pub mod TickingLaws
pub mod RefusalLaws
