-- The practice radio beside a session: which packets it is told, and what it keeps then (2026-02). Definitions only.
use Rattle.std.specs.Prelude.{ℕ, ◌+◌, ◌-◌, ◌%◌, ◌^◌, min, List, [], ◌∷◌, length, take, slice_index}
use Rattle.desk.specs.declared.desk.Request.{Request}
use Rattle.desk.specs.declared.desk.Request.TheVariants.{Nothing, Call, State, Radio, Open, End}
use Rattle.radio.specs.Answer.{Outcome}
use Rattle.radio.specs.Listen.{cut, received, after, accepted}
use Rattle.radio.specs.State.{at_first}
use Rattle.calls.specs.declared.practice.Practice.{Practice}

-- an answer's five places for streams; what is no octet is no stream's offset either
abbrev pub octet : ℕ → ℕ
octet x = min x 255

abbrev pub places_of : List ℕ → List ℕ
places_of a = octet (slice_index a 3) ∷ octet (slice_index a 4) ∷ octet (slice_index a 5) ∷ octet (slice_index a 6) ∷ octet (slice_index a 7) ∷ []

-- the streams that an answer of eight numbers lists, by their offsets
abbrev pub listed : List ℕ → List ℕ
listed a = take (min (slice_index a 2) 5) (places_of a)

-- what becomes of their packets, which stand one behind the other from the front of the buffer on
abbrev pub outcomes : Practice → List ℕ → List ℕ → List Outcome
outcomes p packets a = received p.radio (cut (listed a) packets)

-- as `open` leaves it
abbrev pub untold : Practice
untold = record { radio = at_first; refused = 0 }

-- after a call of this answer: the radio as the last of them leaves it, and those that it refused more
abbrev pub heard : Practice → List ℕ → List ℕ → Practice
heard p packets a =
    record {
      radio = after p.radio (outcomes p packets a);
      refused = (p.refused + (length (listed a) - accepted (outcomes p packets a))) % 2 ^ 64;
    }

-- after a line that asks for this
abbrev pub listened : Request → Practice → List ℕ → List ℕ → Practice
listened Call p packets a = heard p packets a
listened Open p packets a = untold
listened Nothing p packets a = p
listened State p packets a = p
listened Radio p packets a = p
listened End p packets a = p
