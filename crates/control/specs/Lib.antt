pub mod Mode
pub mod Word
pub mod Role
pub mod Pins
pub mod Lookup
