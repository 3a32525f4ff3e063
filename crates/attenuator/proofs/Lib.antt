-- The laws of `attenuator`, for its own proofs and for the crates above it: a file imports only what stands above it here.
pub mod Answers
pub mod Levels
