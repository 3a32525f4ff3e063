-- The definitions that the contracts of `discovery` cite.
pub mod Request
pub mod Reply
