-- The laws of `health`, for its own proofs and for the crates above it.
pub mod Losses
