-- The laws of `sequence`.
pub mod Meanings
pub mod Answers
pub mod Edges
