pub mod Inside
pub mod Feasible
pub mod Free
pub mod Dived
pub mod Pinned
pub mod Ending
