pub mod Digits
pub mod Lines
pub mod Frames
pub mod Answers
pub mod History
pub mod Quoted
pub mod Written
