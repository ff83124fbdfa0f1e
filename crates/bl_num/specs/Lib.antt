pub mod Exact
pub mod Checked
pub mod Decimals
pub mod Spellings
pub mod Texts
pub mod Reading
pub mod Laws
