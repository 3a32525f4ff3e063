-- Answers and refusals, what every call keeps, and the cases: a file imports only what stands above it here.
pub mod Answers
pub mod Refusals
pub mod Rows
pub mod AtRates
pub mod Room
pub mod Traces
pub mod Pairs
pub mod Sends
pub mod Leaves
pub mod Opens
pub mod Counters
pub mod Slots
pub mod Counts
pub mod Due
pub mod Timely
pub mod Walks
-- trials of the definitions
pub mod Edges
pub mod Worked
pub mod WorkedRows
pub mod WorkedStates
