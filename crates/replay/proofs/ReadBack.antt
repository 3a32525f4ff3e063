-- What a run wrote, read back, is what its calls replied. Assumes nothing.
use Rattle.std.specs.Prelude.{Ok}
use Prim.Native.Nat.{ℕ, zero, suc, ◌+◌, ◌*◌, ◌/◌, ◌≤◌}
use mathlib.Core.Path.{◌≡◌, refl, sym, ap, ◌∙◌}
use mathlib.Core.List.{List, [], ◌∷◌, ◌++◌, append_assoc, append-nil}
use lib.ListN.{length, take, length-append}
use lib.Seq.{take_at, drop_at}
use lib.Dec.{eqb}
use lib.Ieee.{Float}
use native.Mathlib.Omega.{arith}
use Rattle.octets.specs.Written.{written}
use Rattle.octets.proofs.Writes.{written-front}
use Rattle.model.specs.Answer.{Answer}
use Rattle.model.specs.Host.{Reply, trace}
use Rattle.model.specs.State.{State}
use Rattle.model.specs.Session.{step}
use Rattle.model.proofs.Room.{room-suffices}
use Rattle.encoding.specs.Words.{words_at, lends_packets, taken_by, nothing, Within}
use Rattle.encoding.specs.Lists.{Lent, room, part, call_at, taken_with, calls_from, decoded, check_from}
use Rattle.answers.specs.Code.{numbers_in, answer_in, streams_in}
use Rattle.replay.specs.Runs.{host, all, packets_in, buffer_in}
use Rattle.replay.specs.Replay.{reply_at, replies_from, replies_in}
use Rattle.encoding.specs.declared.words.Amounts.{Amounts}
use Rattle.encoding.proofs.Fitting.{within-says}
use Rattle.encoding.proofs.Checks.{fine-next}
use Rattle.answers.proofs.Decodes.{numbers-size, answer-is, streams-are}
use Rattle.replay.proofs.Lendings.{lends, part-size}

module _ {A : Type 0} where
  -- a part behind n places
  part_of : (before part' after rest : List A) (n k : ℕ) → length before ≡ n → length part' ≡ k → part n k (before ++ ((part' ++ after) ++ rest)) ≡ part'
  part_of before part' after rest n k h j =
      ap (take k) (drop_at before ((part' ++ after) ++ rest) n h ∙ append_assoc part' after rest) ∙ take_at part' (after ++ rest) k j

  regroup : (a b c d : List A) → a ++ ((b ++ c) ++ d) ≡ (a ++ b) ++ (c ++ d)
  regroup a b c d = simp append_assoc

cons-is : (r r' : Reply) (rs rs' : List Reply) → r ≡ r' → rs ≡ rs' → r ∷ rs ≡ r' ∷ rs'
cons-is r r' rs rs' e f = cc

reply-is : (a a' : Answer) (s s' p p' : List ℕ) (b b' : List Float) → a ≡ a' → s ≡ s' → p ≡ p' → b ≡ b'
    → ◌≡◌ {A = Reply} (record { answer = a; streams = s; packets = p; buffer = b }) (record { answer = a'; streams = s'; packets = p'; buffer = b' })
reply-is a a' s s' p p' b b' ea es ep eb = cc

module _ (l : Lent) where
  -- the lent buffers of a call that has room
  module _ (st : State) (i : ℕ) (taken : Amounts) (h : Within (taken_with l.calls i taken) (room l)) where
    pub packets-size : length (step st (call_at l i taken)).reply.packets ≡ (taken_by (words_at l.calls (8 * i))).packets
    unfolding taken_by
    packets-size =
        let w = words_at l.calls (8 * i) in
        (room-suffices st (call_at l i taken)).packets ∙ ap length (lends w _ _ _ _).0
        ∙ part-size (lends_packets w.kind) w.places taken.packets l.packets h.packets

    pub buffer-size : length (step st (call_at l i taken)).reply.buffer ≡ (taken_by (words_at l.calls (8 * i))).places
    unfolding taken_by
    buffer-size =
        let w = words_at l.calls (8 * i) in
        (room-suffices st (call_at l i taken)).buffer ∙ ap length (lends w _ _ _ _).1
        ∙ part-size (eqb w.kind 3) w.places taken.places l.places h.places

  read-from : (k i : ℕ) (taken : Amounts) (st : State) (a a' p p' : List ℕ) (q q' : List Float) → check_from l.calls (room l) k i taken ≡ Ok tt
      → length a ≡ 8 * i → length p ≡ taken.packets → length q ≡ taken.places
      → replies_from l.calls k i taken (a ++ (all numbers_in (trace host st (calls_from l k i taken)) ++ a')) (p ++ (all packets_in (trace host st (calls_from l k i taken)) ++ p')) (q ++ (all buffer_in (trace host st (calls_from l k i taken)) ++ q'))
      ≡ trace host st (calls_from l k i taken)
  unfolding calls_from replies_from
  read-from zero i taken st a a' p p' q q' h sa sp sq = refl
  read-from (suc k) i taken st a a' p p' q q' h sa sp sq =
      let x = step st (call_at l i taken) in
      let next = taken_with l.calls i taken in
      let f = fine-next l.calls (room l) k i taken h in
      let fit = within-says next (room l) f.1 in
      let few : length x.reply.streams ≤ 5 = (room-suffices st (call_at l i taken)).streams in
      let rs = trace host x.state (calls_from l k (i + 1) next) in
      let na = part_of a (numbers_in x.reply) (all numbers_in rs) a' (8 * i) 8 sa (numbers-size x.reply few) in
      let first : reply_at l.calls i taken (a ++ ((numbers_in x.reply ++ all numbers_in rs) ++ a')) (p ++ ((packets_in x.reply ++ all packets_in rs) ++ p')) (q ++ ((buffer_in x.reply ++ all buffer_in rs) ++ q')) ≡ x.reply =
      reply-is _ _ _ _ _ _ _ _ (ap answer_in na ∙ answer-is x.reply few) (ap streams_in na ∙ streams-are x.reply few)
      (part_of p x.reply.packets (all packets_in rs) p' taken.packets _ sp (packets-size st i taken fit))
      (part_of q x.reply.buffer (all buffer_in rs) q' taken.places _ sq (buffer-size st i taken fit)) in
      let others : replies_from l.calls k (i + 1) next (a ++ ((numbers_in x.reply ++ all numbers_in rs) ++ a')) (p ++ ((packets_in x.reply ++ all packets_in rs) ++ p')) (q ++ ((buffer_in x.reply ++ all buffer_in rs) ++ q')) ≡ rs =
      rw (
        regroup a (numbers_in x.reply) (all numbers_in rs) a',
        regroup p (packets_in x.reply) (all packets_in rs) p',
        regroup q (buffer_in x.reply) (all buffer_in rs) q',
      )
      (read-from k (i + 1) next x.state (a ++ numbers_in x.reply) a' (p ++ packets_in x.reply) p' (q ++ buffer_in x.reply) q' f.2
      (length-append a (numbers_in x.reply) ∙ omega (arith, sa, numbers-size x.reply few))
      (length-append p x.reply.packets ∙ omega (arith, sp, packets-size st i taken fit))
      (length-append q x.reply.buffer ∙ omega (arith, sq, buffer-size st i taken fit))) in
      cons-is _ _ _ _ first others

  -- of the whole list
  pub read_back : (st : State) (a p : List ℕ) (q : List Float) → check_from l.calls (room l) (length l.calls / 8) 0 nothing ≡ Ok tt
      → a ≡ all numbers_in (trace host st (decoded l)) → p ≡ written l.packets 0 (all packets_in (trace host st (decoded l)))
      → q ≡ written l.places 0 (all buffer_in (trace host st (decoded l))) → replies_in l.calls a p q ≡ trace host st (decoded l)
  read_back st a p q h ea ep eq =
      let rs = trace host st (decoded l) in
      rw
      (ea ∙ sym (append-nil (all numbers_in rs)), ep ∙ written-front l.packets (all packets_in rs) _ refl, eq ∙ written-front l.places (all buffer_in rs) _ refl)
      (read-from (length l.calls / 8) 0 nothing st [] [] [] _ [] _ h refl refl refl)
