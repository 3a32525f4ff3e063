-- The definitions that the contracts of `receiving` cite beside model's.
pub mod Quiet
pub mod Hears
