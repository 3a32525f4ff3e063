-- The definitions that the contracts of `turns` cite, and those of the crates above it.
pub mod Reply
pub mod Turns
