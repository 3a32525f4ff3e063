-- The definitions that the contracts of `values` cite, and those of the crates above it: docs/CALLS.md, in its order.
pub mod Value
pub mod Octets
pub mod Waiting
pub mod Datagram
