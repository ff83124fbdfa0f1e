pub mod Covers
pub mod Greedy
pub mod Tries
