-- The laws of `stall`, for the crates above it.
pub mod Once
