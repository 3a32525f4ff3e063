-- What holds of a stream's account, beside what each function of `tally` is promised.
pub mod Tables
pub mod Notes
pub mod Tellings
