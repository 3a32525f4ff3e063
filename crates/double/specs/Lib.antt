-- The definitions that the contracts of `double` cite, and those of the crates above it.
pub mod Whole
pub mod Seconds
pub mod Parts
pub mod Between
