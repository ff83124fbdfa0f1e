pub mod Growth
pub mod Living
pub mod Leaves
pub mod Induction
mod Cutoffs
mod Coverage
pub mod Meaning
mod Children
pub mod Sums
pub mod Budget
pub mod Lines
pub mod Ties
pub mod Chains
mod Ranges
pub mod Workable
pub mod Rows
pub mod Births
mod Ends
pub mod Newborns
pub mod Upkeep
pub mod Nothing
mod Named
pub mod Others
pub mod Endings
