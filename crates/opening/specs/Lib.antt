-- The definitions that the contracts of `opening` cite beside model's.
pub mod Opens
pub mod Refusal
