-- The laws of `octets`, for its own proofs and for the crates above it: a file imports only what stands above it here.
pub mod Tables
pub mod Writes
pub mod Puts
pub mod Numbers
pub mod Packets
pub mod Orders
pub mod Shapes
