-- The laws of `stream`: a file imports only what stands above it here.
pub mod Limits
pub mod Monotone
pub mod Nearness
pub mod Halves
pub mod Jumps
pub mod Restarts
pub mod Times
pub mod Rates
pub mod Edges
