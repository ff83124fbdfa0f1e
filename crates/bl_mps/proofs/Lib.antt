mod PerName
mod Lists
pub mod Units
mod Senses
mod Limits
mod Programs
mod Made
mod Values
mod FirstFault
mod RowLaws
mod Files
