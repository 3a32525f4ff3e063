-- The practice radio: it accepts at most as many packets as are listed. Assumes nothing.
use Rattle.std.specs.Prelude.{Option, Some, None}
use Rattle.std.proofs.Common.{◌≡◌, ℕ, suc, ◌+◌, ◌-◌, ◌%◌, ◌^◌, ◌≤◌, min, List, [], ◌∷◌, length, get_or, take, drop, sym, ap, ◌∙◌, arith, length-take-le}
use Rattle.wire.specs.Command.{size_of}
use Rattle.wire.specs.declared.command.Stream.{Stream}
use Rattle.radio.specs.Command.{command_read}
use Rattle.radio.specs.Listen.{stream_at, where_known, Command, cut, received, accepted, received_of}
use Rattle.radio.specs.declared.listen.Received.{Received}
use Rattle.radio.specs.declared.state.Radio.{Radio}
use Rattle.radio.proofs.Listens.{at_most_one}
use Rattle.calls.specs.declared.practice.Practice.{Practice}
use Rattle.calls.specs.Practised.{places_of, listed, outcomes, heard}

-- one packet more, where its offset is a stream's
one_more : (r : Radio) (s : Option Stream) (f : Stream → Command) (g : Stream → List Command) (n : ℕ) → ((x : Radio) (k : Stream) → accepted (received x (g k)) ≤ n) → accepted (received r (where_known s (λ k. f k ∷ g k))) ≤ suc n
unfolding received
one_more r None f g n h = omega arith
one_more r (Some k) f g n h =
    let x = command_read r (f k).stream (f k).octets in
    omega (arith, at_most_one x.told, h x.radio k)

accepted-most : (r : Radio) (os b : List ℕ) → accepted (received r (cut os b)) ≤ length os
unfolding cut received
accepted-most r [] b = omega arith
accepted-most r (o ∷ os) b =
    one_more r (stream_at o) (λ k. record { stream = k; octets = take (size_of k) b }) (λ k. cut os (drop (size_of k) b)) (length os)
    (λ x k. accepted-most x os (drop (size_of k) b))

listed-count : (a : List ℕ) → length (listed a) ≡ min (get_or a 2 0) 5
listed-count a = length-take-le (min (get_or a 2 0) 5) _ (omega arith)

-- what was read of the streams that an answer lists
module _ (p : Practice) (packets a os : List ℕ) (n : ℕ) (got : Received) (e : os ≡ places_of a) (k : n ≡ min (get_or a 2 0) 5) (g : got ≡ received_of p.radio (received p.radio (cut (take n os) packets))) where
  here : got ≡ received_of p.radio (outcomes p packets a)
  here =
      g
      ∙ ap (λ (l : List ℕ). received_of p.radio (received p.radio (cut (take n l) packets))) e
      ∙ ap (λ (i : ℕ). received_of p.radio (received p.radio (cut (take i (places_of a)) packets))) k

  pub not_more : got.accepted ≤ n
  not_more = omega (arith, accepted-most p.radio (listed a) packets, listed-count a, k, ap (λ (x : Received). x.accepted) here)

  pub heard-is : (w : ℕ) → w ≡ (p.refused + (n - got.accepted)) % 2 ^ 64 → record { radio = got.radio; refused = w } ≡ heard p packets a
  heard-is w f =
      ap (λ (x : ℕ). record { radio = got.radio; refused = x })
      (f ∙ ap (λ (x : ℕ). (p.refused + (x - got.accepted)) % 2 ^ 64) (k ∙ sym (listed-count a)))
      ∙ ap (λ (x : Received). record { radio = x.radio; refused = (p.refused + (length (listed a) - x.accepted)) % 2 ^ 64 }) here
