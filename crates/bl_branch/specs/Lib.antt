pub mod Rules
pub mod Calls
pub mod Widest
pub mod Fractions
