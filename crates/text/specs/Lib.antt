-- The definitions that the contracts of `text` cite, and those of the crates above it.
pub mod Run
pub mod Number
pub mod Split
pub mod Name
pub mod Part
