-- What the replies of both protocols share: the tests of a datagram's kind and status; and a told reply leaves no doubt which reply it was. Assumes nothing.
use Rattle.std.specs.Prelude.{Option, Some, None}
use Prim.Native.Nat.{ℕ}
use mathlib.Core.Bool.{Bool, true, false, ◌&&◌, and-false}
use mathlib.Core.Path.{◌≡◌, refl, sym, ap, ◌∙◌}
use mathlib.Core.List.{List, [], ◌∷◌}
use lib.ListN.{length, get_or, take, drop}
use lib.Dec.{leb, eqb, eqb→eq}
use lib.Ieee.Fits.{and_r}
use native.Mathlib.Omega.{arith}
use borrow.Author.Tests.{ne_eqb}
use Rattle.base.specs.Pick.{pick}
use Rattle.octets.specs.Number.{be_at}
use Rattle.base.proofs.Picks.{pick-either}
use Rattle.base.specs.Told.{Told, gives, refused}
use Rattle.discovery.specs.Reply.{Reply, status_number, reply_answer, told_of, no_reply, is_status, checked, is_p1, reply_p1, is_p2, reply_p2, reply_told}
use Rattle.discovery.specs.declared.DiscoveryStatus.{DiscoveryStatus}
use Rattle.discovery.specs.declared.DiscoveryStatus.TheVariants.{Available, InUse}
use Rattle.discovery.specs.declared.ReplyAnswer.{ReplyAnswer}
use Rattle.discovery.specs.declared.ReplyAnswer.TheVariants.{Protocol1, Protocol2}
use Rattle.discovery.specs.declared.DiscoveryReply.{DiscoveryReply}

-- ---- a datagram's kind: its l octets are n or more, and the number at its front is k

front : (n l x k : ℕ) → (leb n l && eqb x k) ≡ true → x ≡ k
front n l x k e = eqb→eq x k (and_r (leb n l) (eqb x k) (rw e tt))

-- no datagram is of both kinds, whatever its elements are
pub p1-not-p2 : (b : List ℕ) → is_p1 b ≡ true → is_p2 b ≡ false
p1-not-p2 b e =
    rw (ne_eqb (be_at 4 b 0) 0 (λ z. omega (arith, front 11 (length b) (be_at 2 b 0) 0xEFFE e))) (and-false (leb 21 (length b)))

-- ---- its status

-- s is the status that was read and m the copied address: they tell what the octet and the datagram's part a tell
pub replied : (octet : ℕ) (told : ℕ → Told) (s : DiscoveryStatus) (m a : List ℕ) → (is_status octet ≡ true → status_number s ≡ octet) → m ≡ a
    → checked octet (record { told = told (status_number s); mac = m }) ≡ checked octet (record { told = told octet; mac = a })
unfolding checked pick
replied octet told s m a h q = rw q (by-status (is_status octet) h)
  where
    by-status : (b : Bool) → (b ≡ true → status_number s ≡ octet)
        → pick b (record { told = told (status_number s); mac = a }) no_reply ≡ pick b (record { told = told octet; mac = a }) no_reply
    by-status true h = ap (λ (n : ℕ). record { told = told n; mac = a }) (h refl)
    by-status false h = refl

-- ---- a told reply can be read back

status-back : ℕ → DiscoveryStatus
status-back n = pick (eqb n 2) Available InUse

answer_back : List ℕ → ReplyAnswer
answer_back vs =
    let status = status-back (get_or vs 1 0) in
    let board = get_or vs 2 0 in
    let firmware = get_or vs 3 0 in
    pick (eqb (get_or vs 0 0) 1) (Protocol1 status board firmware) (Protocol2 status board firmware (get_or vs 4 0))

back_by : Told → List ℕ → Option DiscoveryReply
back_by (gives vs) mac = Some (record { answer = answer_back vs; mac = mac })
back_by (refused k vs) mac = None

reply-back : Reply → Option DiscoveryReply
reply-back r = back_by r.told r.mac

status-same : (s : DiscoveryStatus) → status-back (status_number s) ≡ s
unfolding status-back pick
status-same Available = refl
status-same InUse = refl

values : Told → List ℕ
values (gives vs) = vs
values (refused k vs) = vs

answer-same : (a : ReplyAnswer) → answer_back (values (reply_answer a)) ≡ a
unfolding answer_back values pick
answer-same (Protocol1 status board firmware) = rw (status-same status)
answer-same (Protocol2 status board firmware receivers) = rw (status-same status)

given : (a : ReplyAnswer) (mac : List ℕ) → back_by (reply_answer a) mac ≡ Some (record { answer = answer_back (values (reply_answer a)); mac = mac })
unfolding back_by values
given (Protocol1 status board firmware) mac = refl
given (Protocol2 status board firmware receivers) mac = refl

reply-same : (r : Option DiscoveryReply) → reply-back (told_of r) ≡ r
unfolding reply-back back_by
reply-same None = refl
reply-same (Some r) = given r.answer r.mac ∙ ap (λ (a : ReplyAnswer). Some (record { answer = a; mac = r.mac })) (answer-same r.answer)

pub reply-apart : (r s : Option DiscoveryReply) → told_of r ≡ told_of s → r ≡ s
reply-apart r s e = sym (reply-same r) ∙ ap reply-back e ∙ reply-same s

-- ---- a told reply of Protocol 2 was read off these places

-- a reply of Protocol 2 in 01's terms
abbrev pub told2 : ℕ → ℕ → ℕ → ℕ → List ℕ → Reply
told2 status board firmware receivers mac = record { told = gives (2 ∷ status ∷ board ∷ firmware ∷ receivers ∷ []); mac = mac }

pub record Places (b : List ℕ) (status board firmware receivers : ℕ) (mac : List ℕ) : Type 0 where
  pub status-at : get_or b 4 0 ≡ status
  pub board-at : get_or b 11 0 ≡ board
  pub firmware-at : get_or b 13 0 ≡ firmware
  pub receivers-at : get_or b 20 0 ≡ receivers
  pub mac-at : take 6 (drop 5 b) ≡ mac

pub places : (b : List ℕ) (s o f r : ℕ) (m : List ℕ) → reply_told b ≡ told2 s o f r m → Places b s o f r m
unfolding reply_told checked
places b s o f r m =
    pick-either (is_p1 b) (reply_p1 b) _ Told
    (λ _. pick-either (is_status (get_or b 2 0)) _ no_reply Told (λ _ e. let t = ap (λ (x : Reply). x.told) e in let z : ◌≡◌ {A = ℕ} 1 2 = cc in absurd (omega arith)) (λ _. none))
    (λ _.
    pick-either (is_p2 b) (reply_p2 b) no_reply Told
    (λ _.
    pick-either (is_status (get_or b 4 0)) _ no_reply Told
    (λ _ e.
    let t = ap (λ (x : Reply). x.told) e in
    record { status-at = cc; board-at = cc; firmware-at = cc; receivers-at = cc; mac-at = ap (λ (x : Reply). x.mac) e })
    (λ _. none))
    (λ _. none))
  where
    Told : Reply → Type 0
    Told x = x ≡ told2 s o f r m → Places b s o f r m

    none : Told no_reply
    none e = let t = ap (λ (x : Reply). x.told) e in let z : ◌≡◌ {A = ℕ} 0 1 = cc in absurd (omega arith)
