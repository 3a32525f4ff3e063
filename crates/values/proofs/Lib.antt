-- The laws of `values`: a file imports only what stands above it here.
pub mod Values
pub mod Pieces
pub mod Addresses
pub mod Hexadecimals
pub mod Spans
pub mod Datagrams
