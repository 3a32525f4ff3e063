-- The definitions that the contracts of `lines` cite: docs/CALLS.md, in its order.
pub mod Key
pub mod Name
pub mod Option
pub mod Argument
pub mod Call
pub mod Open
pub mod Found
