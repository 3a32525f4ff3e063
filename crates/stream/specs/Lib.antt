-- The definitions that the contracts of `stream` cite, and those of the crates above it.
pub mod Size
pub mod Elapsed
pub mod Rated
