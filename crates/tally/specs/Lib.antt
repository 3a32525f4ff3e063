-- The definitions that the contracts of `tally` cite, in the order of reading.
pub mod Stretch
pub mod Stretches
pub mod Table
pub mod Rows
