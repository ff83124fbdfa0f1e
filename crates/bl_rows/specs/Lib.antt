pub mod Points
pub mod Shared
