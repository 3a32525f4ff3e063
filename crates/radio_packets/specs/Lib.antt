-- The definitions that the contracts of `radio_packets` cite, and what is claimed of what is written, in the order of reading.

-- the answer of a writer
pub mod Answer
-- what is written
pub mod Iq
pub mod Status
pub mod Reply
-- that the host reads it back, and that it is the least which the host reads so
pub mod Back
pub mod Least
