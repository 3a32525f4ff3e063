-- The laws of `text`, for its own proofs: a file imports only what stands above it here.
pub mod Runs
pub mod Spelling
pub mod Splits
pub mod Names
pub mod Parts
