pub mod Places
pub mod Table
pub mod Account
pub mod Promise
pub mod Sheet
pub mod Lasts
pub mod Script
