-- What is claimed of a session and a practice radio, in the order of reading.

-- the radio reads back what the session writes
pub mod ReadBack
-- a stream that the radio writes falls under demand 3
pub mod Stream
