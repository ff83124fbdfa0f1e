mod Lists
pub mod EntryLemmas
mod Counting
mod Standing
mod Steps
mod Joining
mod Closing
pub mod Crosses
