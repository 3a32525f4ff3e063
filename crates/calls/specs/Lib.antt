-- The definitions that the contracts of `calls` cite.
pub mod Practised
pub mod Came
