pub mod Words
pub mod Same
pub mod Trim
