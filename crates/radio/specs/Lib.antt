-- The definitions that the contracts of `radio` cite, in the order of reading.

-- the answers, and what the radio keeps
pub mod Answer
pub mod State
-- a command packet, read
pub mod Command
-- the packets of a call, one behind the other
pub mod Listen
