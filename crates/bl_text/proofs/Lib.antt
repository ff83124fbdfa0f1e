pub mod Cuts
pub mod Bytes
pub mod Together
