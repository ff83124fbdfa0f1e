pub mod Entries
pub mod Views
pub mod Accounts
pub mod Rule
pub mod Plays
pub mod Seats
pub mod Turns
