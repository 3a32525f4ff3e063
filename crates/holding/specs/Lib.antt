-- The definitions that the contracts of `holding` cite.
pub mod Held
