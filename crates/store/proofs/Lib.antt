-- Lemmas that several proofs share. `Facts` serves the crates above too.
mod Pigeon
mod Ways
mod Searches
mod Writes
mod Adding
mod Dropping
mod Rehashing
mod States
pub mod Facts
mod Known
mod Changes
mod Weeding
