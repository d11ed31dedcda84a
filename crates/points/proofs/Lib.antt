pub mod Claims
pub mod Hierarchy
pub mod Points
