-- The laws of sending, for its own proofs and for the session's.
pub mod Progresses
pub mod Givings
