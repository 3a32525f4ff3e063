-- An answer as two numbers, and a call's whole reply as eight: the answer's code and value, how many streams it wrote, and their
-- offsets in order, the unused places 0. Definitions only.
use Rattle.std.specs.Prelude.{ℕ, ◌+◌, ◌-◌, true, false, List, ◌∷◌, get_or, take, drop, eqb, ltb, Some, None}
use Rattle.base.specs.Pick.{pick}
use Rattle.sequence.specs.declared.SeqEvent.{SeqEvent}
use Rattle.sequence.specs.declared.SeqEvent.TheVariants.{InOrder, Gap, Stale, Restart}
use Rattle.model.specs.Answer.{Word, begun, ready, soft_stall, hard_stall, sent, ignored, status, malformed, malformed_limit, closed, Answer, refused, done, heard, took, slot, flag}
use Rattle.model.specs.Host.{Reply}
use Rattle.model.specs.Command.{streams_as}
use Rattle.model.specs.declared.command.Streams.{Streams}
use Rattle.answers.specs.declared.Code.{Code}

-- ---- written

abbrev pub word_code : Word → ℕ
word_code begun = 1
word_code ready = 2
word_code soft_stall = 3
word_code hard_stall = 4
word_code sent = 5
word_code ignored = 6
word_code status = 7
word_code malformed = 8
word_code malformed_limit = 9
word_code closed = 10

-- a gap of n datagrams is 19 + n: every code from 19 on
abbrev pub event_code : SeqEvent → ℕ
event_code InOrder = 11
event_code Stale = 12
event_code Restart = 13
event_code (Gap n) = n + 19

abbrev pub code : ℕ → ℕ → Code
code c v = record { code = c; value = v }

-- the value is a refusal's number, an arrival's missing, the pairs of a Take, or what a slot held
abbrev pub coded : Answer → Code
coded (refused number) = code 0 number
coded (done word) = code (word_code word) 0
coded (heard event missing) = code (event_code event) missing
coded (took pairs) = code 14 pairs
coded (slot None) = code 15 0
coded (slot (Some n)) = code 16 n
coded (flag false) = code 17 0
coded (flag true) = code 18 0

-- eight numbers
abbrev pub numbers_of : Code → Streams → List ℕ
numbers_of c s = c.code ∷ c.value ∷ s.count ∷ s.offsets

-- a reply as eight numbers
abbrev pub numbers_in : Reply → List ℕ
numbers_in r = numbers_of (coded r.answer) (streams_as r.streams)

-- ---- read back

abbrev pub word_of : ℕ → Word
word_of c =
    pick (eqb c 1) begun
    (pick (eqb c 2) ready
    (pick (eqb c 3) soft_stall
    (pick (eqb c 4) hard_stall
    (pick (eqb c 5) sent
    (pick (eqb c 6) ignored
    (pick (eqb c 7) status
    (pick (eqb c 8) malformed
    (pick (eqb c 9) malformed_limit closed))))))))

abbrev pub answer_of : ℕ → ℕ → Answer
answer_of c v =
    pick (eqb c 0) (refused v)
    (pick (ltb c 11) (done (word_of c))
    (pick (eqb c 11) (heard InOrder v)
    (pick (eqb c 12) (heard Stale v)
    (pick (eqb c 13) (heard Restart v)
    (pick (eqb c 14) (took v)
    (pick (eqb c 15) (slot None)
    (pick (eqb c 16) (slot (Some v))
    (pick (eqb c 17) (flag false)
    (pick (eqb c 18) (flag true) (heard (Gap (c - 19)) v))))))))))

-- of eight numbers
abbrev pub answer_in : List ℕ → Answer
answer_in w = answer_of (get_or w 0 0) (get_or w 1 0)

abbrev pub streams_in : List ℕ → List ℕ
streams_in w = take (get_or w 2 0) (drop 3 w)
