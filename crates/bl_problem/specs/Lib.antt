pub mod Sums
pub mod Rows
pub mod Program
pub mod Points
pub mod Cuts
pub mod Decisions
