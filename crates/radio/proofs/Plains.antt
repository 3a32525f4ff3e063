-- The octets of a command packet that are fixed: the code's tests of them are the test whether the packet is zeros with its named
-- fields stored in them. Assumes nothing.
use Prim.Native.Nat.{ℕ, ◌%◌, ◌^◌}
use mathlib.Core.Path.{◌≡◌, refl, sym, ◌∙◌, subst}
use mathlib.Core.Bool.{Bool, true, ◌&&◌}
use mathlib.Core.List.{List}
use lib.ListN.{length, get_or}
use lib.Dec.{T, eqb, eqb→eq}
use lib.Ieee.Bits.{is_true}
use lib.Ieee.Fits.{and_l, and_r}
use native.Mathlib.Omega.{arith}
use borrow.Author.Tests.{eq-eqb}
use Rattle.base.specs.Each.{Each}
use Rattle.octets.specs.Number.{be_at}
use Rattle.octets.specs.Packet.{packet, Zero, within, apart}
use Rattle.octets.specs.Order.{Octets}
use Rattle.octets.proofs.Numbers.{be_at-one}
use Rattle.octets.proofs.Packets.{read_back}
use Rattle.octets.proofs.Shapes.{Gaps, gapped, packet-is, gaps-packet, same_by}
use Rattle.wire.specs.Command.{size_of}
use Rattle.wire.specs.declared.command.Stream.{Stream}
use Rattle.wire.specs.declared.command.Stream.TheVariants.{General, RxSpecific, TxSpecific, HighPriority}
use Rattle.radio.specs.Command.{named, plain}

-- ---- any stream: its fields are within its packet, apart from each other and in the order of their places

named-within : (k : Stream) (p : List ℕ) → T (within (size_of k) (named k p))
named-within General p = tt
named-within RxSpecific p = tt
named-within TxSpecific p = tt
named-within HighPriority p = tt

named-apart : (k : Stream) (p : List ℕ) → T (apart (named k p))
named-apart General p = tt
named-apart RxSpecific p = tt
named-apart TxSpecific p = tt
named-apart HighPriority p = tt

named-gapped : (k : Stream) (p : List ℕ) → T (gapped (named k p) (size_of k) 0 (named k p))
named-gapped General p = tt
named-gapped RxSpecific p = tt
named-gapped TxSpecific p = tt
named-gapped HighPriority p = tt

-- each field that is named reads its value: of a free one that says nothing
abbrev pub Reads : Stream → List ℕ → Type 0
Reads k p = Each (λ f. be_at f.width p f.at ≡ f.value) (named k p)

-- and as much of it as its octets hold
abbrev ReadsBack : Stream → List ℕ → Type 0
ReadsBack k p = Each (λ f. be_at f.width p f.at ≡ f.value % 256 ^ f.width) (named k p)

-- b is the code's test: of runs of zeros between the fields, and of the fields that are fixed
module _ (k : Stream) (p : List ℕ) (e : length p ≡ size_of k) (o : Octets p) (b : Bool) where
  plain_by : (T b → Gaps 0 (named k p) p × Reads k p) → (Gaps 0 (named k p) p → ReadsBack k p → T b) → b ≡ plain k p
  unfolding plain
  plain_by to back =
      let w = named-within k p in
      let a = named-apart k p in
      let q = packet (size_of k) (named k p) in
      same_by b p q
      (λ t. let h = to t in packet-is (size_of k) (named k p) w a p e o h.1 h.0)
      (λ h.
      back (subst (Gaps 0 (named k p)) (sym h) (gaps-packet (size_of k) (named k p) w a (named k p) 0 w (named-gapped k p)))
      (subst (λ (l : List ℕ). Each (λ f. be_at f.width l f.at ≡ f.value % 256 ^ f.width) (named k p)) (sym h) (read_back (size_of k) (named k p) w a)))

-- ---- each stream

-- a run that was looked through
abbrev pub Looked : List ℕ → ℕ → ℕ → Bool → Type 0
Looked p from to z = (z ≡ true → Zero p from to) × (Zero p from to → z ≡ true)

none : (p : List ℕ) (from : ℕ) → Zero p from from
none p from i l u = absurd (omega arith)

-- a test that passed
yes : (b : Bool) → T b → b ≡ true
yes = is_true

both_true : (a b : Bool) → a ≡ true → b ≡ true → T (a && b)
both_true a b p q = rw (p, q) tt

-- the octet at a place is so, and was read so
octet-is : (p : List ℕ) (at v : ℕ) → T (eqb (get_or p at 0) v) → be_at 1 p at ≡ v
octet-is p at v t = be_at-one p at ∙ eqb→eq (get_or p at 0) v t

octet-was : (p : List ℕ) (at v : ℕ) → be_at 1 p at ≡ v → eqb (get_or p at 0) v ≡ true
octet-was p at v e = eq-eqb (get_or p at 0) v (sym (be_at-one p at) ∙ e)

module _ (p : List ℕ) (o : Octets p) where
  pub general-plain : length p ≡ 60 → (z y : Bool) → Looked p 4 37 z → Looked p 39 59 y
      → ((z && y) && (eqb (get_or p 37 0) 8 && eqb (get_or p 38 0) 1)) ≡ plain General p
  general-plain e z y h k =
      let mode = eqb (get_or p 37 0) 8 in
      let watchdog = eqb (get_or p 38 0) 1 in
      plain_by General p e o ((z && y) && (mode && watchdog))
      (λ t.
      let runs = and_l (z && y) (mode && watchdog) t in
      let fixed = and_r (z && y) (mode && watchdog) t in (
        (none p 0, (h.0 (yes z (and_l z y runs)), (none p 38, (k.0 (yes y (and_r z y runs)), subst (Zero p 60) (sym e) (none p 60))))),
        (refl, (octet-is p 37 8 (and_l mode watchdog fixed), (octet-is p 38 1 (and_r mode watchdog fixed), (refl, tt)))),
      ))
      (λ g r.
      both_true (z && y) (mode && watchdog) (yes (z && y) (both_true z y (h.1 g.1.0) (k.1 g.1.1.1.0)))
      (yes (mode && watchdog) (both_true mode watchdog (octet-was p 37 8 r.1.0) (octet-was p 38 1 r.1.1.0))))

  pub rx-plain : length p ≡ 1444 → (z y x w : Bool) → Looked p 5 7 z → Looked p 8 18 y → Looked p 20 22 x → Looked p 23 1444 w
      → (((z && y) && (x && w)) && (eqb (get_or p 7 0) 1 && eqb (get_or p 22 0) 24)) ≡ plain RxSpecific p
  rx-plain e z y x w h k l m =
      let set = eqb (get_or p 7 0) 1 in
      let bits = eqb (get_or p 22 0) 24 in
      let runs = (z && y) && (x && w) in
      plain_by RxSpecific p e o (runs && (set && bits))
      (λ t.
      let all = and_l runs (set && bits) t in
      let fixed = and_r runs (set && bits) t in
      let low = and_l (z && y) (x && w) all in
      let high = and_r (z && y) (x && w) all in (
        (none p 0, (none p 4, (h.0 (yes z (and_l z y low)), (k.0 (yes y (and_r z y low)), (l.0 (yes x (and_l x w high)), subst (Zero p 23) (sym e) (m.0 (yes w (and_r x w high)))))))),
        (refl, (refl, (octet-is p 7 1 (and_l set bits fixed), (refl, (octet-is p 22 24 (and_r set bits fixed), tt))))),
      ))
      (λ g r.
      both_true runs (set && bits)
      (yes runs
      (both_true (z && y) (x && w) (yes (z && y) (both_true z y (h.1 g.1.1.0) (k.1 g.1.1.1.0)))
      (yes (x && w) (both_true x w (l.1 g.1.1.1.1.0) (m.1 (subst (Zero p 23) e g.1.1.1.1.1))))))
      (yes (set && bits) (both_true set bits (octet-was p 7 1 r.1.1.0) (octet-was p 22 24 r.1.1.1.1.0))))

  pub tx-plain : length p ≡ 60 → (z : Bool) → Looked p 5 60 z → (z && eqb (get_or p 4 0) 1) ≡ plain TxSpecific p
  tx-plain e z h =
      let one = eqb (get_or p 4 0) 1 in
      plain_by TxSpecific p e o (z && one)
      (λ t. ((none p 0, (none p 4, subst (Zero p 5) (sym e) (h.0 (yes z (and_l z one t))))), (refl, (octet-is p 4 1 (and_r z one t), tt))))
      (λ g r. both_true z one (h.1 (subst (Zero p 5) e g.1.1)) (octet-was p 4 1 r.1.0))

  pub high-plain : length p ≡ 1444 → (z y x w : Bool) → Looked p 5 9 z → Looked p 13 329 y → Looked p 333 1428 x → Looked p 1436 1443 w
      → ((z && y) && (x && w)) ≡ plain HighPriority p
  high-plain e z y x w h k l m =
      plain_by HighPriority p e o ((z && y) && (x && w))
      (λ t.
      let low = and_l (z && y) (x && w) t in
      let high = and_r (z && y) (x && w) t in (
        (
          none p 0,
          (none p 4, (h.0 (yes z (and_l z y low)), (k.0 (yes y (and_r z y low)), (l.0 (yes x (and_l x w high)), (none p 1432, (m.0 (yes w (and_r x w high)), subst (Zero p 1444) (sym e) (none p 1444))))))),
        ),
        (refl, (refl, (refl, (refl, (refl, (refl, (refl, tt))))))),
      ))
      (λ g r.
      both_true (z && y) (x && w) (yes (z && y) (both_true z y (h.1 g.1.1.0) (k.1 g.1.1.1.0)))
      (yes (x && w) (both_true x w (l.1 g.1.1.1.1.0) (m.1 g.1.1.1.1.1.1.0))))
