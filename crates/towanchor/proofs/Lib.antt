pub mod Answered
pub mod AnsweredByRack
pub mod CleanScript
pub mod Explained
pub mod Trimmed
pub mod OneMore
