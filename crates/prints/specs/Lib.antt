pub mod Printed
pub mod Mended
pub mod Left
pub mod Quiet
pub mod Trimmed
pub mod Strays
