-- Demand 3's statement, and what stands beside it, in the order of reading.
pub mod Whole
pub mod Book
pub mod Ledger
pub mod Demand3
pub mod Exact
pub mod Numbering
