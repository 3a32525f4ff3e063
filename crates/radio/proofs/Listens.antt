-- The packets of a call, read one after another: which stream an offset is, and one packet more. Assumes nothing.
use Rattle.std.specs.Prelude.{Option, Some, None}
use Prim.Native.Nat.{ℕ, ◌+◌, ◌-◌, ◌≤◌, ◌<◌, min}
use mathlib.Core.Path.{◌≡◌, sym, ap, ◌∙◌}
use mathlib.Core.List.{List, ◌∷◌}
use lib.ListN.{length, get_or, take, drop, length-drop, drop_of_length-le}
use lib.Seq.{drop-cons, drop-drop, take_all}
use native.Mathlib.Nat.{add_assoc, zero-add}
use native.Mathlib.Numerals.{add-one}
use native.Mathlib.Omega.{arith}
use Rattle.base.specs.Told.{Told, gives, refused}
use Rattle.octets.proofs.Shapes.{below_or}
use Rattle.wire.specs.Command.{size_of}
use Rattle.wire.specs.declared.command.Stream.{Stream}
use Rattle.radio.specs.Answer.{Outcome}
use Rattle.radio.specs.Command.{command_read}
use Rattle.radio.specs.Listen.{stream_at, where_known, cut, received, after, is_accepted, accepted}
use Rattle.radio.specs.declared.listen.Received.{Received}
use Rattle.radio.specs.declared.state.Radio.{Radio}

-- so many were accepted before these
abbrev pub onward : Radio → ℕ → List Outcome → Received
onward r n xs = record { radio = after r xs; accepted = n + accepted xs }

pub at_most_one : (t : Told) → is_accepted t ≤ 1
at_most_one (gives vs) = omega arith
at_most_one (refused k vs) = omega arith

pub at_first : (r : Radio) (xs : List Outcome) → record { radio = after r xs; accepted = accepted xs } ≡ onward r 0 xs
at_first r xs = ap (λ (n : ℕ). record { radio = after r xs; accepted = n }) (sym (zero-add (accepted xs)))

module _ (offs p : List ℕ) (i at : ℕ) (r : Radio) (n : ℕ) where
  abbrev rest : Received
  rest = onward r n (received r (cut (drop i offs) (drop at p)))

  -- no offset is left
  pub onward-end : length offs ≤ i → record { radio = r; accepted = n } ≡ rest
  unfolding cut received
  onward-end h =
      sym
      (ap (λ (l : List ℕ). onward r n (received r (cut l (drop at p)))) (drop_of_length-le offs h)
      ∙ ap (λ (m : ℕ). record { radio = r; accepted = m }) (none_more n))
    where
      none_more : (n : ℕ) → n + 0 ≡ n
      none_more n = omega arith

  module _ (h : i < length offs) where
    here : drop i offs ≡ get_or offs i 0 ∷ drop (i + 1) offs
    here = drop-cons offs i 0 h ∙ ap (λ (m : ℕ). get_or offs i 0 ∷ drop m offs) (sym (add-one i))

    -- one that is no stream's
    pub onward-nowhere : stream_at (get_or offs i 0) ≡ None → record { radio = r; accepted = n } ≡ rest
    unfolding cut received
    onward-nowhere e =
        sym
        (ap (λ (l : List ℕ). onward r n (received r (cut l (drop at p)))) here
        ∙ ap (λ (o : Option Stream). onward r n (received r (where_known o (λ k. record { stream = k; octets = take (size_of k) (drop at p) } ∷ cut (drop (i + 1) offs) (drop (size_of k) (drop at p)))))) e
        ∙ ap (λ (m : ℕ). record { radio = r; accepted = m }) (none_more n))
      where
        none_more : (n : ℕ) → n + 0 ≡ n
        none_more n = omega arith

    -- a packet more, which ends at end
    pub onward-more : (k : Stream) (x : Outcome) (end : ℕ) → stream_at (get_or offs i 0) ≡ Some k → at ≤ length p → end ≡ min (at + size_of k) (length p)
        → x ≡ command_read r k (take (end - at) (drop at p)) → rest ≡ onward x.radio (n + is_accepted x.told) (received x.radio (cut (drop (i + 1) offs) (drop end p)))
    unfolding cut received
    onward-more k x end e l m q =
        let size = size_of k in
        let y = command_read r k (take size (drop at p)) in
        let is : y ≡ x = ap (command_read r k) (sym (part p at size end l m)) ∙ sym q in
        ap (λ (o : List ℕ). onward r n (received r (cut o (drop at p)))) here
        ∙ ap (λ (o : Option Stream). onward r n (received r (where_known o (λ k. record { stream = k; octets = take (size_of k) (drop at p) } ∷ cut (drop (i + 1) offs) (drop (size_of k) (drop at p)))))) e
        ∙ ap (λ (o : List ℕ). onward r n (y ∷ received y.radio (cut (drop (i + 1) offs) o))) (past p at size end l m)
        ∙ ap (λ (o : Outcome). onward r n (o ∷ received o.radio (cut (drop (i + 1) offs) (drop end p)))) is
        ∙ ap (λ (j : ℕ). record { radio = after x.radio (received x.radio (cut (drop (i + 1) offs) (drop end p))); accepted = j }) (sym (add_assoc n (is_accepted x.told) (accepted (received x.radio (cut (drop (i + 1) offs) (drop end p))))))
      where
        -- what of the packet is there
        part : (p : List ℕ) (at size end : ℕ) → at ≤ length p → end ≡ min (at + size) (length p) → take (end - at) (drop at p) ≡ take size (drop at p)
        part p at size end l m =
            below_or (length p) (at + size)
            (λ u. take_all (end - at) (drop at p) (omega (arith, length-drop at p)) ∙ sym (take_all size (drop at p) (omega (arith, length-drop at p))))
            (λ u. let s : end - at ≡ size = omega arith in ap (λ (j : ℕ). take j (drop at p)) s)

        -- what is behind it
        past : (p : List ℕ) (at size end : ℕ) → at ≤ length p → end ≡ min (at + size) (length p) → drop size (drop at p) ≡ drop end p
        past p at size end l m =
            drop-drop size at p
            ∙ below_or (length p) (at + size)
            (λ u. drop_of_length-le p {i = at + size} (omega arith) ∙ sym (drop_of_length-le p {i = end} (omega arith)))
            (λ u. let s : at + size ≡ end = omega arith in ap (λ (j : ℕ). drop j p) s)
