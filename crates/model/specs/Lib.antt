-- What every call gives, in the order of reading.

-- the answers and the rules; a receiver's rules name no session
pub mod Answer
pub mod Sample
pub mod Command
pub mod Parts
pub mod Rules
pub mod AtRate
pub mod Routing
-- a host, and the state of a session
pub mod Host
pub mod State
-- 01's table: what is refused, and by which number
pub mod Table
pub mod Settings
-- the calls
pub mod Sending
pub mod Open
pub mod Begin
pub mod Pass
pub mod Hearing
pub mod Arrival
pub mod Take
pub mod Close
pub mod Drain
pub mod Session
-- how what the code of a call gives is held to these
pub mod Gives
pub mod Listed
-- a refusal changes nothing, what each call leaves as it was, and what is written has room
pub mod Refusals
pub mod Leaves
pub mod Counted
pub mod Timely
pub mod Room
-- 01's edges, and the lists of calls that they are stated with
pub mod Lists
pub mod Edges
