-- The laws behind Pass.
pub mod Passes
