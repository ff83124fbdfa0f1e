mod Steps
mod Rounds
mod Serials
mod Splitting
mod Handing
mod Ending
mod Joining
mod Searching
