-- The laws of `console`: a file imports only what stands above it here.
pub mod Decimal
pub mod Printed
