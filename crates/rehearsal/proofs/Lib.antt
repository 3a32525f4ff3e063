-- The laws of `rehearsal`: a file imports only what stands above it here.
pub mod Streams
pub mod Sayings
pub mod ReadBacks
pub mod Lines
