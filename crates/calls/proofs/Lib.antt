-- The laws of `calls`.
pub mod Listens
