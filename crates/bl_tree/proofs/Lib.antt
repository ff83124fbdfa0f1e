pub mod Searches
mod Sets
pub mod Kept
pub mod Puts
pub mod Boxed
pub mod Boxes
pub mod Handed
pub mod Counted
pub mod Standing
pub mod Lows
pub mod Roots
pub mod Outs
mod Keys
pub mod Queues
mod Least
mod Freeings
mod Stored
mod Values
mod Goes
mod Climbing
mod Candidates
mod Covers
mod Chained
mod Trees
mod Encodings
pub mod Jobs
