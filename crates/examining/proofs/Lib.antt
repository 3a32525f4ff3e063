-- That an account stands, call by call, and that one that stands is demand 3's.
pub mod Marked
pub mod Standings
