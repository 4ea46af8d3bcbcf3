pub mod InBases
pub mod Places
pub mod Stays
pub mod Determined
pub mod Named
