-- The sizes that a stream goes by: the I/Q pairs of a datagram, and the datagrams that a socket's buffer holds at most, which is the
-- most numbers that may wait. Definitions only.
use Rattle.std.specs.Prelude.{ℕ}

abbrev pub per_datagram : ℕ
per_datagram = 238

abbrev pub max_buffered : ℕ
max_buffered = 8192
