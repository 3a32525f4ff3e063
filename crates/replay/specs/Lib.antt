-- The definitions that the contracts of `replay` cite: what the run of a list of calls leaves.
pub mod Runs
pub mod Replay
pub mod Chunks
