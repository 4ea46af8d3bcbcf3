pub mod Place
pub mod Listed
