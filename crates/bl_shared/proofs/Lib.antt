pub mod Later
pub mod Turning
pub mod Crosses
