-- The definitions that the contracts of `attenuator` cite, and the claim about its level.
pub mod Controller
pub mod Answer
pub mod Level
