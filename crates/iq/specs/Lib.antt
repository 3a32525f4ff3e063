-- The definitions that the contracts of `iq` cite, and those of the crates above it.
pub mod Iq
pub mod Turn
-- 01's edges
pub mod Edges
