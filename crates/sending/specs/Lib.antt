-- The definitions that the contracts of `sending` cite beside account's.
pub mod Progress
