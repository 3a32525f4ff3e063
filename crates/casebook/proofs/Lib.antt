-- The laws of `casebook`.
pub mod Parts
