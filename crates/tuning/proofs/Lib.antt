-- The laws of `tuning`: a file imports only what stands above it here.
pub mod Answers
pub mod Rungs
pub mod Phases
pub mod Centres
pub mod Doublings
pub mod Rates
pub mod RateLoop
pub mod Edges
pub mod Widths
