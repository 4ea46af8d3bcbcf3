pub mod ByDevice
pub mod Left
pub mod Said
