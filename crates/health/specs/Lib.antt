-- The definitions that the contracts of `health` cite.
pub mod Counters
