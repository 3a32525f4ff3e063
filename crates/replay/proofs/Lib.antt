-- The laws of a list of calls, run: a file imports only what stands above it here.
pub mod Fronts
pub mod Walks
pub mod Lendings
pub mod ReadBack
pub mod Chunks
pub mod Replays
