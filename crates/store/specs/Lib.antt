-- The definitions that the contracts cite.
pub mod Index
pub mod Items
pub mod Layout
pub mod Contents
pub mod Memory
