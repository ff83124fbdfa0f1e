pub mod Ranges
pub mod Nearness
pub mod Law
pub mod Whole
