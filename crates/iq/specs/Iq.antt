-- The I/Q datagram: count, bits at 12, samples at 14; from 16 on I and Q in turn, 24-bit signed and over 2^23. Definitions only.
use Rattle.std.specs.Prelude.{ℕ, ◌+◌, ◌-◌, ◌*◌, Bool, not, ◌≡◌, List, [], ◌∷◌, length, ltb, leb, eqb, Float, Result, Ok, Err}
use Rattle.iq.specs.declared.IqError.{IqError}
use Rattle.iq.specs.declared.IqError.TheVariants.{Length, BitsPerSample, SamplesPerFrame, NoRoom}
use Rattle.std.specs.Float.{binary32}
use Rattle.std.specs.Float.Ieee.{round}
use Rattle.stream.specs.Size.{per_datagram}
use Rattle.base.specs.Pick.{pick}
use Rattle.octets.specs.Table.{tab}
use Rattle.octets.specs.Number.{be_at}
use Rattle.octets.specs.Written.{written}
use Rattle.base.specs.Told.{Told, gives, refused}

-- 24 bits as a signed number: whether it is below 0, and its size
abbrev pub minus : ℕ → Bool
minus v = leb 8388608 v

unfoldable pub magnitude : ℕ → ℕ
magnitude v = pick (minus v) (16777216 - v) v

-- the signed number with the bits v, over 2^23. Nothing is rounded: `sample-exact` of proofs/Samples
unfoldable pub sample_of : ℕ → Float
unfolding round
sample_of v = round binary32 (minus v) (magnitude v) 8388608

-- I, then Q, of each of the 238 pairs
unfoldable pub samples_of : List ℕ → List Float
samples_of b = tab 476 (λ (i : ℕ). sample_of (be_at 3 b (16 + 3 * i)))

abbrev pub count_of : List ℕ → Told
count_of b = gives (be_at 4 b 0 ∷ [])

-- 01's rows 7 (gives the length), 8 and 9 (give the field), in order, before what comes after them
unfoldable pub rows : List ℕ → Told → Told
rows b then =
    pick (not (eqb (length b) 1444)) (refused 7 (length b ∷ []))
    (pick (not (eqb (be_at 2 b 12) 24)) (refused 8 (be_at 2 b 12 ∷ []))
    (pick (not (eqb (be_at 2 b 14) per_datagram)) (refused 9 (be_at 2 b 14 ∷ []))
    then))

unfoldable pub header_told : List ℕ → Told
header_told b = rows b (count_of b)

-- and 16, an output below 476 f32
unfoldable pub parse_told : List ℕ → ℕ → Told
parse_told b room = rows b (pick (ltb room 476) (refused 16 []) (count_of b))

abbrev pub iq_answer : Result ℕ IqError → Told
iq_answer (Ok seq) = gives (seq ∷ [])
iq_answer (Err (Length n)) = refused 7 (n ∷ [])
iq_answer (Err (BitsPerSample v)) = refused 8 (v ∷ [])
iq_answer (Err (SamplesPerFrame v)) = refused 9 (v ∷ [])
iq_answer (Err NoRoom) = refused 16 []

-- an accepted datagram's samples stand at the front, the rest is untouched; a refusal changes nothing
unfoldable pub parse_out : Told → List ℕ → List Float → List Float
parse_out (gives vs) b d = written d 0 (samples_of b)
parse_out (refused k vs) b d = d

pub record Parsed (b : List ℕ) (d : List Float) (r : Result ℕ IqError) (e : List Float) : Type 0 where
  pub answer : iq_answer r ≡ parse_told b (length d)
  pub holds : e ≡ parse_out (parse_told b (length d)) b d
