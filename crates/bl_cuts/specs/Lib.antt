pub mod Derivations
pub mod Steps
pub mod Answers
pub mod Separations
pub mod OneRow
