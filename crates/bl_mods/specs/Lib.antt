pub mod InTurn
pub mod Mods
pub mod Rising
