-- The laws of `lines`, for its own proofs: a file imports only what stands above it here.
pub mod Names
pub mod Options
pub mod Forms
pub mod Fillings
pub mod Bounds
pub mod Calls
pub mod Openings
pub mod Rests
pub mod Stood
