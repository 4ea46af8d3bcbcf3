pub mod Tested
pub mod Tabled
pub mod BitLaws
pub mod Sum
pub mod MaskLaws
pub mod Determined
pub mod Logic
pub mod Same
