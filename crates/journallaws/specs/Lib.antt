pub mod Frames
pub mod Packing
pub mod Keeps
pub mod Promise
pub mod Here
pub mod ByEvents
pub mod Example
