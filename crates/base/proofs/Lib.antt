-- The laws of `base`: a file imports only what stands above it here.
pub mod Tests
pub mod Picks
pub mod Searches
pub mod Rows
pub mod Told
pub mod Cases
pub mod Eaches
