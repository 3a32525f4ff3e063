-- The definitions that the contracts of `console` cite.
pub mod Input
pub mod Output
