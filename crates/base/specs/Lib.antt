-- The definitions that every crate above shares.
pub mod Pick
pub mod Told
pub mod Search
pub mod Rows
pub mod Each
pub mod Cases
