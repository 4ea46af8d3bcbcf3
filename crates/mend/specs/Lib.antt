pub mod Line
pub mod Reason
pub mod Words
pub mod Mend
