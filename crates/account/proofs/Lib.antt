-- Demand 3's proof in layers, what stands beside it, and trials of the statement.

-- whole numbers alone, then lists of arrivals, then any host, then this session call by call
pub mod Numbers
pub mod Verdict
pub mod Stretches
pub mod Simulate
pub mod Same
pub mod Observes
pub mod Arrived
pub mod Demand3
pub mod Numbering
-- trials: lists of calls, wrong hosts, worked cases
pub mod Lists
pub mod WrongHosts
pub mod Wrong
pub mod Refusing
pub mod Worked
