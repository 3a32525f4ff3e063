-- The laws of `iq`: a file imports only what stands above it here.
pub mod Answers
pub mod Samples
pub mod Turns
pub mod Headers
pub mod Edges
