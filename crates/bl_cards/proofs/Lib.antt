pub mod Differing
mod Places
mod RowLines
pub mod Grids
mod GivenLines
pub mod Walks
mod Faults
mod Coherent
mod NumbersRead
mod CoherentColumns
mod CoherentLines
mod SectionLaw
mod StretchLaw
mod ColumnLaw
mod SetLaw
mod SenseLaw
mod FirstFault
