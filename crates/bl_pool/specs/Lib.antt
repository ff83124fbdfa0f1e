-- The keys of a pool and their order.
pub mod Orders
pub mod Views
pub mod Heaps
