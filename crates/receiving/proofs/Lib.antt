-- The laws of a receiver: a file imports only what stands above it here.
pub mod Quiets
pub mod Receivers
pub mod Hearings
