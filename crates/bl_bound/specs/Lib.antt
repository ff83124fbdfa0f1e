pub mod Lines
pub mod Descriptions
pub mod Bounds
pub mod Units
pub mod Steps
pub mod Reduced
