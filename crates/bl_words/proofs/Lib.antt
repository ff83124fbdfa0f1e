mod Steps
mod Walked
mod Whole
mod Spelled
mod Getters
mod Meaning
mod Judging
mod Ranges
