-- The definitions that the contracts of `arriving` cite beside model's.
pub mod Route
