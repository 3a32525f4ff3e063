-- The definitions that the contracts of `stall` cite.
pub mod Episode
