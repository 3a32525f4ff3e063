-- The laws of calls as numbers: a file imports only what stands above it here.
pub mod Fitting
pub mod Checks
pub mod Takings
