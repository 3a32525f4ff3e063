-- The definitions that the contracts of `tuning` cite, and those of the crates above it.
pub mod Board
pub mod Alex
pub mod Centre
pub mod Phase
pub mod Rate
-- 01's edges
pub mod Edges
