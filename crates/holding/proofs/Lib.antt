-- What holds of the session that a program holds.
pub mod Fits
pub mod Keeps
