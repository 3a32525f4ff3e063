-- The loss total modulo 2^64, as datagrams are lost. Assumes nothing.
use Rattle.std.proofs.Common.{◌≡◌, ℕ, ◌+◌, ◌*◌, ◌/◌, ◌%◌, ◌^◌, arith}
use Rattle.health.specs.Counters.{count_dropped, loss_total}
use Rattle.health.specs.declared.InputHealthCounters.{InputHealthCounters}

-- numbers that whole multiples of 2^64 bring together
same_rest : (a b p q : ℕ) → a + p * 2 ^ 64 ≡ b + q * 2 ^ 64 → a % 2 ^ 64 ≡ b % 2 ^ 64
same_rest a b p q e = omega arith

-- n datagrams more are 238 n samples more
pub loss-rises : (c : InputHealthCounters) (n : ℕ) → loss_total (count_dropped c n) ≡ (loss_total c + 238 * n) % 2 ^ 64
unfolding loss_total
loss-rises c n =
    let d = c.dropped_packets in
    same_rest (238 * ((d + n) % 2 ^ 64)) (238 * d % 2 ^ 64 + 238 * n) (238 * ((d + n) / 2 ^ 64)) (238 * d / 2 ^ 64) (omega arith)

-- where the dropped count is D modulo 2^64, it is that of D
pub loss-of : (c : InputHealthCounters) (D : ℕ) → c.dropped_packets ≡ D % 2 ^ 64 → loss_total c ≡ 238 * D % 2 ^ 64
unfolding loss_total
loss-of c D e = same_rest (238 * c.dropped_packets) (238 * D) (238 * (D / 2 ^ 64)) 0 (omega arith)
