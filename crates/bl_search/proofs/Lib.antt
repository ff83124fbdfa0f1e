pub mod Places
mod Putting
mod Serials
pub mod Tidying
mod Turns
