-- The laws of an arrival: a file imports only what stands above it here.
pub mod Routes
pub mod Arrivals
