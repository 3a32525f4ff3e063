-- The laws of one call of a list: a file imports only what stands above it here.
pub mod Arms
pub mod Dispatch
