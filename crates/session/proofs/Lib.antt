-- The laws behind the calls.
pub mod Closes
pub mod Takes
