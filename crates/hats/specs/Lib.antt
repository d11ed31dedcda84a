pub mod Multiples
pub mod Bounds
