-- The laws of what an arrival misses: a file imports only what stands above it here.
pub mod Events
pub mod Times
pub mod Walks
pub mod Reports
