-- What a session and its account are after a call, and what it is for the account to be that of the calls that were run.
pub mod Marks
pub mod Stands
