-- The definitions that the contracts of `answers` cite, and those of the crates above it.
pub mod Code
