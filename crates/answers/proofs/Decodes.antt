-- An answer and the streams of a reply, read back from their numbers. Assumes nothing.
use Rattle.std.specs.Prelude.{Some, None}
use Prim.Native.Nat.{ℕ, ◌+◌, ◌-◌, ◌≤◌, ◌<◌}
use mathlib.Core.Path.{◌≡◌, refl, ap}
use mathlib.Core.Bool.{true, false}
use lib.ListN.{length, replicate, length-append, length-replicate}
use lib.Seq.{take_at}
use lib.Dec.{eqb}
use native.Mathlib.Omega.{arith}
use borrow.Author.Tests.{le-ltb, ne_eqb, eqb-true, eqb-false, ltb-true, ltb-false}
use Rattle.base.specs.Pick.{pick}
use Rattle.base.proofs.Picks.{pick-either}
use Rattle.sequence.specs.declared.SeqEvent.TheVariants.{InOrder, Gap, Stale, Restart}
use Rattle.model.specs.Answer.{Word, Answer, refused, done, heard, took, slot, flag, begun, ready, soft_stall, hard_stall, sent, ignored, status, malformed, malformed_limit, closed}
use Rattle.model.specs.Host.{Reply}
use Rattle.model.specs.Command.{streams_as}
use Rattle.answers.specs.Code.{word_of, coded, answer_of, answer_in, streams_in, numbers_in}

pub answer_back : (a : Answer) → answer_of (coded a).code (coded a).value ≡ a
unfolding pick
answer_back (refused n) = refl
answer_back (done begun) = refl
answer_back (done ready) = refl
answer_back (done soft_stall) = refl
answer_back (done hard_stall) = refl
answer_back (done sent) = refl
answer_back (done ignored) = refl
answer_back (done status) = refl
answer_back (done malformed) = refl
answer_back (done malformed_limit) = refl
answer_back (done closed) = refl
answer_back (heard InOrder m) = refl
answer_back (heard Stale m) = refl
answer_back (heard Restart m) = refl
answer_back (heard (Gap n) m) =
    simp (
      ne_eqb (n + 19) 0 (omega arith),
      le-ltb (n + 19) 11 (omega arith),
      ne_eqb (n + 19) 11 (omega arith),
      ne_eqb (n + 19) 12 (omega arith),
      ne_eqb (n + 19) 13 (omega arith),
      ne_eqb (n + 19) 14 (omega arith),
      ne_eqb (n + 19) 15 (omega arith),
      ne_eqb (n + 19) 16 (omega arith),
      ne_eqb (n + 19) 17 (omega arith),
      ne_eqb (n + 19) 18 (omega arith),
    )
    (ap (λ (k : ℕ). heard (Gap k) m) (omega arith))
answer_back (took n) = refl
answer_back (slot None) = refl
answer_back (slot (Some n)) = refl
answer_back (flag false) = refl
answer_back (flag true) = refl

-- what holds of each answer that a code can stand for, with what is known of the code then
module _ (P : Answer → Type 0) (c v : ℕ) where
  past : (k : ℕ) → eqb c k ≡ false → k ≤ c → k + 1 ≤ c
  past k n h = let d = eqb-false c k n in omega (arith, d)

  pub answer-cases : (c ≡ 0 → P (refused v)) → (c < 11 → (w : Word) → P (done w)) → (c ≡ 11 → P (heard InOrder v)) → (c ≡ 12 → P (heard Stale v))
      → (c ≡ 13 → P (heard Restart v)) → (c ≡ 14 → P (took v)) → (c ≡ 15 → P (slot None)) → (c ≡ 16 → P (slot (Some v))) → (c ≡ 17 → P (flag false))
      → (c ≡ 18 → P (flag true)) → (19 ≤ c → P (heard (Gap (c - 19)) v)) → P (answer_of c v)
  answer-cases p0 p1 p11 p12 p13 p14 p15 p16 p17 p18 p19 =
      pick-either _ _ _ P (λ h. p0 (eqb-true c 0 h)) (λ n0. pick-either _ _ _ P (λ h. p1 (ltb-true c 11 h) (word_of c)) (λ n1.
      pick-either _ _ _ P (λ h. p11 (eqb-true c 11 h)) (λ n11. pick-either _ _ _ P (λ h. p12 (eqb-true c 12 h)) (λ n12.
      pick-either _ _ _ P (λ h. p13 (eqb-true c 13 h)) (λ n13. pick-either _ _ _ P (λ h. p14 (eqb-true c 14 h)) (λ n14.
      pick-either _ _ _ P (λ h. p15 (eqb-true c 15 h)) (λ n15. pick-either _ _ _ P (λ h. p16 (eqb-true c 16 h)) (λ n16.
      pick-either _ _ _ P (λ h. p17 (eqb-true c 17 h)) (λ n17. pick-either _ _ _ P (λ h. p18 (eqb-true c 18 h)) (λ n18.
      p19 (past 18 n18 (past 17 n17 (past 16 n16 (past 15 n15 (past 14 n14 (past 13 n13 (past 12 n12 (past 11 n11 (ltb-false c 11 n1)))))))))))))))))))

module _ (r : Reply) (h : length r.streams ≤ 5) where
  pub numbers-size : length (numbers_in r) ≡ 8
  unfolding streams_as
  numbers-size =
      let l = r.streams in
      omega (arith, length-append l (replicate (5 - length l) 0), length-replicate {A = ℕ} (5 - length l) 0)

  pub answer-is : answer_in (numbers_in r) ≡ r.answer
  answer-is = answer_back r.answer

  pub streams-are : streams_in (numbers_in r) ≡ r.streams
  unfolding streams_as
  streams-are = take_at r.streams (replicate (5 - length r.streams) 0) (length r.streams) refl
