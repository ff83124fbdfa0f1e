-- The MPS text of a problem.
pub mod Layout
pub mod Written
pub mod Cursors
pub mod Views
pub mod Laws
