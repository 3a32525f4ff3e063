-- The laws of `radio_packets`: a file imports only what stands above it here.
pub mod Answers
pub mod Signed
pub mod Datagrams
pub mod Replies
pub mod Wrotes
pub mod Backs
pub mod Leasts
