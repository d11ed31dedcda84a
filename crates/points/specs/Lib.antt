pub mod Axis
pub mod Examples
pub mod Hierarchy
pub mod Points
pub mod Refusals
