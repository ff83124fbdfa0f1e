mod Histories
mod Keeping
mod Chains
mod Forms
mod Splitting
