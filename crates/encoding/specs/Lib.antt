-- The definitions that the contracts of `encoding` cite, and those of the crates above it.
pub mod Words
pub mod Lists
