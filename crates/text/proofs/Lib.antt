-- The lemmas on runs, fronts and numbers of a text, and on cursors.
pub mod Runs
pub mod Fronts
pub mod Decimals
pub mod Longest
pub mod Cursors
