-- The definitions that the contracts of `sequence` cite, and those of the crates above it.
pub mod Tracker
pub mod Answer
-- 01's edges
pub mod Edges
