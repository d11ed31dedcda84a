-- The definitions of what a refused reading tells.
pub mod Layer
