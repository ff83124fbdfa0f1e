pub mod Leases
pub mod Splits
