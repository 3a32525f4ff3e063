-- The laws of `discovery`: a file imports only what stands above it here.
pub mod Replies
pub mod Requests
