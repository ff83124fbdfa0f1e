-- What the words after a program's name mean.
pub mod Words
pub mod Options
pub mod Wishes
pub mod Laws
