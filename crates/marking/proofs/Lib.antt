-- What holds of what is noted, beside what each function of `marking` is promised.
pub mod Codes
-- the account is demand 3's: its records, its stretches, and the whole of it
pub mod Streams
pub mod Onward
pub mod Spans
pub mod Splits
pub mod Handed
pub mod Evens
pub mod Whole
pub mod Calls
