pub mod Columns
pub mod SparseLemmas
pub mod Numbers
pub mod EtaLemmas
pub mod SupportLemmas
pub mod Narrow
pub mod Quotients
pub mod KeptLemmas
