-- The law of a step that a clock decides; the laws of sending serve for the rest.
pub mod Clocks
