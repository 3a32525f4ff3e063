-- The definitions that the contracts of `outage` cite beside model's.
pub mod Report
