pub mod Table
pub mod Bit
pub mod Sum
pub mod Same
