-- The definitions that the contracts of `octets` cite, and those of the crates above it.
pub mod Table
pub mod Written
pub mod Number
pub mod Packet
pub mod Order
