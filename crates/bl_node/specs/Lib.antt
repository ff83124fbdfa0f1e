pub mod Boxes
pub mod Standing
pub mod Names
pub mod Tried
pub mod Moves
pub mod Sides
pub mod Outcomes
pub mod Promise
