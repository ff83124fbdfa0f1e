pub mod Law
pub mod Decisions
pub mod Gap
