-- What a call takes, by its kind. Assumes nothing.
use Rattle.std.proofs.Common.{◌≡◌, ◌∙◌, ◌<◌, ap, refl, arith}
use borrow.Author.Tests.{ne_eqb}
use Rattle.base.specs.Pick.{pick}
use Rattle.encoding.specs.Words.{kind_number, taken_by, nothing}
use Rattle.encoding.specs.declared.kind.Kind.{Kind}
use Rattle.encoding.specs.declared.kind.Kind.TheVariants as kind
use Rattle.encoding.specs.declared.words.Words.{Words}
use Rattle.encoding.specs.declared.words.Amounts.{Amounts}

-- in the code's words
abbrev pub amounts_of : Kind → Words → Amounts
amounts_of kind.Begin w = nothing
amounts_of kind.Pass w = record { octets = 0; numbers = 0; packets = w.places; places = 0 }
amounts_of kind.Arrival w = record { octets = w.octets; numbers = w.numbers; packets = w.places; places = 0 }
amounts_of kind.Take w = record { octets = 0; numbers = 0; packets = 0; places = w.places }
amounts_of kind.Close w = record { octets = 0; numbers = 0; packets = w.places; places = 0 }
amounts_of kind.TakeMissing w = nothing
amounts_of kind.TakeDiscontinuity w = nothing
amounts_of kind.TakeStalled w = nothing

-- the kind of a number
pub is-arrival : (k : Kind) → kind_number k ≡ 2 → k ≡ kind.Arrival
is-arrival kind.Begin h = absurd (omega (arith, h))
is-arrival kind.Pass h = absurd (omega (arith, h))
is-arrival kind.Arrival h = refl
is-arrival kind.Take h = absurd (omega (arith, h))
is-arrival kind.Close h = absurd (omega (arith, h))
is-arrival kind.TakeMissing h = absurd (omega (arith, h))
is-arrival kind.TakeDiscontinuity h = absurd (omega (arith, h))
is-arrival kind.TakeStalled h = absurd (omega (arith, h))

pub is-take : (k : Kind) → kind_number k ≡ 3 → k ≡ kind.Take
is-take kind.Begin h = absurd (omega (arith, h))
is-take kind.Pass h = absurd (omega (arith, h))
is-take kind.Arrival h = absurd (omega (arith, h))
is-take kind.Take h = refl
is-take kind.Close h = absurd (omega (arith, h))
is-take kind.TakeMissing h = absurd (omega (arith, h))
is-take kind.TakeDiscontinuity h = absurd (omega (arith, h))
is-take kind.TakeStalled h = absurd (omega (arith, h))

module _ (w : Words) where
  pub by-kind : (k : Kind) → w.kind ≡ kind_number k → amounts_of k w ≡ taken_by w
  unfolding taken_by pick
  by-kind kind.Begin h = rw h
  by-kind kind.Pass h = rw h
  by-kind kind.Arrival h = rw h
  by-kind kind.Take h = rw h
  by-kind kind.Close h = rw h
  by-kind kind.TakeMissing h = rw h
  by-kind kind.TakeDiscontinuity h = rw h
  by-kind kind.TakeStalled h = rw h

  -- of a kind that is known to be another's name
  pub by-name : (k j : Kind) → w.kind ≡ kind_number k → k ≡ j → amounts_of j w ≡ taken_by w
  by-name k j h e = by-kind j (h ∙ ap kind_number e)

  pub by-none : 7 < w.kind → nothing ≡ taken_by w
  unfolding taken_by pick
  by-none h =
      let k = w.kind in
      rw (ne_eqb k 1 (λ e. omega (arith, e)), ne_eqb k 2 (λ e. omega (arith, e)), ne_eqb k 3 (λ e. omega (arith, e)), ne_eqb k 4 (λ e. omega (arith, e)))
