pub mod Bases
pub mod State
pub mod Targets
pub mod Step
pub mod Views
pub mod Answers
pub mod Never0
