pub mod Places
pub mod CoverLaw
pub mod GreedyLaw
