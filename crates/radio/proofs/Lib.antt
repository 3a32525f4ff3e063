-- The laws of `radio`: a file imports only what stands above it here.
pub mod Answers
pub mod Plains
pub mod Listens
pub mod Hosts
