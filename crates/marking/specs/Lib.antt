-- What the account of a list of calls is, demand 3's stretches as they are told, and the definitions that the contracts of `marking`
-- cite.
pub mod Records
pub mod Spans
pub mod Key
pub mod Noting
