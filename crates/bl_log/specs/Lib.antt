-- Words of a line, and the text of a journal.
pub mod Spaced
pub mod Log
pub mod Fits
pub mod Reading
pub mod Laws
