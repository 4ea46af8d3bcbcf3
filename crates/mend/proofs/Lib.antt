pub mod Dropping
pub mod Filling
pub mod Fit
pub mod Unfit
pub mod Cleaning
pub mod Judging
pub mod Numbers
pub mod Determined
