-- The laws behind Open: a file imports only what stands above it here.
pub mod Openings
pub mod Refusals
