-- The laws of `wire`: a file imports only what stands above it here.
pub mod Answers
pub mod Writers
pub mod ReadBack
