pub mod HostStep
pub mod Converted
pub mod Rewritten
pub mod Determined
pub mod Counted
pub mod OnChecked
