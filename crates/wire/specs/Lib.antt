-- The definitions that the contracts of `wire` cite, and those of the crates above it.
pub mod Command
pub mod Packet
pub mod Status
