pub mod Hats
pub mod Sizes
pub mod Terms
pub mod Multiples
pub mod Products
