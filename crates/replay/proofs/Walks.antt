-- The walk that runs a list, one call on: what was answered so far, and what of the list is left. Assumes nothing.
use Rattle.std.specs.Prelude.{Ok}
use Prim.Native.Nat.{ℕ, suc, ◌+◌, ◌-◌, ◌*◌, ◌/◌, ◌≤◌, ◌<◌}
use mathlib.Core.Path.{◌≡◌, refl, sym, ap, subst, ◌∙◌}
use mathlib.Core.Bool.{true}
use mathlib.Core.List.{List, [], ◌∷◌, ◌++◌, append_assoc, append-nil}
use lib.ListN.{length, take, drop, drop_of_length-le}
use lib.Dec.{eqb}
use lib.Ieee.{Float}
use native.Mathlib.Omega.{arith}
use Rattle.octets.specs.Written.{written}
use Rattle.model.specs.Host.{Call, Reply, Step, trace, final}
use Rattle.model.specs.State.{State}
use Rattle.model.specs.Session.{step}
use Rattle.encoding.specs.Words.{words_at, is_call, lends_packets, taken_by, nothing, Within, call_of}
use Rattle.encoding.specs.Lists.{Lent, room, call_at, taken_with, calls_from, check_from}
use Rattle.answers.specs.Code.{numbers_in}
use Rattle.turns.specs.Turns.{Turns, TurnsAt}
use Rattle.replay.specs.Runs.{host, Left, all, packets_in, buffer_in, RunsAll}
use Rattle.encoding.specs.declared.words.Words.{Words}
use Rattle.encoding.specs.declared.words.Amounts.{Amounts}
use Rattle.encoding.proofs.Fitting.{within-says}
use Rattle.encoding.proofs.Checks.{fine}
use Rattle.replay.proofs.Fronts.{Laid, laid_none, part-is, laid_more, laid_as, laid-all, all_more, as_lent}

left_is : (a a' p p' : List ℕ) (q q' : List Float) (s s' : State) → a ≡ a' → p ≡ p' → q ≡ q' → s ≡ s'
    → ◌≡◌ {A = Left} (record { outcome = Ok tt; answers = a; packets = p; places = q; state = s }) (record { outcome = Ok tt; answers = a'; packets = p'; places = q'; state = s' })
left_is a a' p p' q q' s s' ea ep eq es = cc

module _ (st₀ : State) (l : Lent) (answers₀ : List ℕ) (n : ℕ) where
  -- what these calls leave
  abbrev left_of : List Call → Left
  left_of cs =
      let rs = trace host st₀ cs in
      record {
        outcome = Ok tt;
        answers = all numbers_in rs;
        packets = written l.packets 0 (all packets_in rs);
        places = written l.places 0 (all buffer_in rs);
        state = final host st₀ cs;
      }

  no_more : (i : ℕ) (taken : Amounts) → n - i ≡ 0 → calls_from l (n - i) i taken ≡ []
  unfolding calls_from
  no_more i taken z = ap (λ (k : ℕ). calls_from l k i taken) z

  -- after i of n calls
  pub record Done (i : ℕ) (taken : Amounts) (st : State) (answers packets : List ℕ) (places : List Float) : Type 0 where
    pub done : List Reply
    pub outcome : trace host st₀ (calls_from l n 0 nothing) ≡ done ++ trace host st (calls_from l (n - i) i taken)
    pub left : final host st₀ (calls_from l n 0 nothing) ≡ final host st (calls_from l (n - i) i taken)
    pub answered : Laid (all numbers_in done) (8 * i) answers₀ answers
    pub wrote : Laid (all packets_in done) taken.packets l.packets packets
    pub handed : Laid (all buffer_in done) taken.places l.places places
    pub checked : check_from l.calls (room l) (n - i) i taken ≡ Ok tt
    pub fits : Within taken (room l)

  done-as : (i : ℕ) (taken : Amounts) (st : State) (a a' p p' : List ℕ) (q q' : List Float) → a' ≡ a → p' ≡ p → q' ≡ q → Done i taken st a p q → Done i taken st a' p' q'
  done-as i taken st a a' p p' q q' ea ep eq d = rw (ea, ep, eq) d

  pub at_first : (taken : Amounts) → taken ≡ nothing → check_from l.calls (room l) n 0 nothing ≡ Ok tt → Done 0 taken st₀ answers₀ l.packets l.places
  at_first taken e h =
      let z : n - 0 ≡ n = omega arith in
      subst (λ (t : Amounts). Done 0 t st₀ answers₀ l.packets l.places) (sym e)
      (record {
        done = [];
        outcome = ap (λ (k : ℕ). trace host st₀ (calls_from l k 0 nothing)) (sym z);
        left = ap (λ (k : ℕ). final host st₀ (calls_from l k 0 nothing)) (sym z);
        answered = laid_none answers₀;
        wrote = laid_none l.packets;
        handed = laid_none l.places;
        checked = ap (λ (k : ℕ). check_from l.calls (room l) k 0 nothing) z ∙ h;
        fits = record { octets = omega arith; numbers = omega arith; packets = omega arith; places = omega arith };
      })

  module _ (i : ℕ) (taken : Amounts) (st : State) (answers packets : List ℕ) (places : List Float) (now : i < n) (d : Done i taken st answers packets places) where
    abbrev w : Words
    w = words_at l.calls (8 * i)

    abbrev next : Amounts
    next = taken_with l.calls i taken

    -- the call that is next, and those after it
    calls-next : calls_from l (n - i) i taken ≡ call_at l i taken ∷ calls_from l (n - (i + 1)) (i + 1) next
    unfolding calls_from
    calls-next = let e : n - i ≡ suc (n - (i + 1)) = omega arith in ap (λ (k : ℕ). calls_from l k i taken) e

    pub is-call : is_call w ≡ true
    is-call = (fine l.calls (room l) n i taken now d.checked).0

    pub has_room : Within next (room l)
    has_room = within-says next (room l) (fine l.calls (room l) n i taken now d.checked).1

    module _ (st' : State) (a p : List ℕ) (q : List Float) (t : Turns w st (take (next.octets - taken.octets) (drop taken.octets l.octets)) (take (next.numbers - taken.numbers) (drop taken.numbers l.numbers)) (take (next.packets - taken.packets) (drop taken.packets packets)) (take (next.places - taken.places) (drop taken.places places)) st' p q a) (lp : length p ≡ next.packets - taken.packets) (lq : length q ≡ next.places - taken.places) (la : length a ≡ 8) where
      abbrev x : Step State
      x = step st (call_at l i taken)

      -- its own parts of the buffers are those of the list
      own : call_of w (take (next.octets - taken.octets) (drop taken.octets l.octets)) (take (next.numbers - taken.numbers) (drop taken.numbers l.numbers)) (take (next.packets - taken.packets) (drop taken.packets packets)) (take (next.places - taken.places) (drop taken.places places)) ≡ call_at l i taken
      own =
          let eo : next.octets - taken.octets ≡ (taken_by w).octets = omega arith in
          let en : next.numbers - taken.numbers ≡ (taken_by w).numbers = omega arith in
          rw (
            eo,
            en,
            part-is _ taken.packets l.packets packets d.wrote next.packets (taken_by w).packets (omega arith),
            part-is _ taken.places l.places places d.handed next.places (taken_by w).places (omega arith),
          )
          refl

      pub more : Done (i + 1) next st' (take (8 * i) answers ++ (a ++ drop (8 * i + 8 - 8 * i) (drop (8 * i) answers))) (take taken.packets packets ++ (p ++ drop (next.packets - taken.packets) (drop taken.packets packets))) (take taken.places places ++ (q ++ drop (next.places - taken.places) (drop taken.places places)))
      unfolding taken_by
      more =
          let ea : a ≡ numbers_in x.reply = t.answered ∙ ap (λ (c : Call). numbers_in (step st c).reply) own in
          let ep : p ≡ x.reply.packets =
          sym (as_lent (lends_packets w.kind) w.places (taken_by w).packets p refl (lp ∙ omega arith)) ∙ t.wrote ∙ ap (λ (c : Call). (step st c).reply.packets) own in
          let eq : q ≡ x.reply.buffer =
          sym (as_lent (eqb w.kind 3) w.places (taken_by w).places q refl (lq ∙ omega arith)) ∙ t.handed ∙ ap (λ (c : Call). (step st c).reply.buffer) own in
          let es : st' ≡ x.state = t.left ∙ ap (λ (c : Call). (step st c).state) own in
          let rest = calls_from l (n - (i + 1)) (i + 1) next in
          record {
            done = d.done ++ (x.reply ∷ []);
            outcome =
                d.outcome
                ∙ ap (λ (cs : List Call). d.done ++ trace host st cs) calls-next
                ∙ ap (λ (s : State). d.done ++ (x.reply ∷ trace host s rest)) (sym es)
                ∙ sym (append_assoc d.done (x.reply ∷ []) (trace host st' rest));
            left = d.left ∙ ap (final host st) calls-next ∙ ap (λ (s : State). final host s rest) (sym es);
            answered =
                laid_as _ _ _ _ _ _ (laid_more _ (8 * i) answers₀ answers d.answered a (8 * i + 8) 8 (omega arith) la)
                (all_more numbers_in d.done x.reply ∙ ap (λ (y : List ℕ). all numbers_in d.done ++ y) (sym ea))
                (omega arith);
            wrote =
                laid_as _ _ _ _ _ _ (laid_more _ taken.packets l.packets packets d.wrote p next.packets (taken_by w).packets (omega arith) (lp ∙ omega arith))
                (all_more packets_in d.done x.reply ∙ ap (λ (y : List ℕ). all packets_in d.done ++ y) (sym ep))
                refl;
            handed =
                laid_as _ _ _ _ _ _ (laid_more _ taken.places l.places places d.handed q next.places (taken_by w).places (omega arith) (lq ∙ omega arith))
                (all_more buffer_in d.done x.reply ∙ ap (λ (y : List Float). all buffer_in d.done ++ y) (sym eq))
                refl;
            checked = (fine l.calls (room l) n i taken now d.checked).2;
            fits = has_room;
          }

    -- of the numbers and amounts that the code worked out
    pub turned : (v : Words) (to : Amounts) (st' : State) (answers' packets' : List ℕ) (places' : List Float) → v ≡ words_at l.calls (8 * i) → to ≡ taken_with l.calls i taken
        → TurnsAt v taken to (8 * i) st l.octets l.numbers packets places answers st' packets' places' answers' → Done (i + 1) to st' answers' packets' places'
    turned v to st' answers' packets' places' e f t =
        let u : TurnsAt w taken next (8 * i) st l.octets l.numbers packets places answers st' packets' places' answers' =
        subst (λ (y : Amounts). TurnsAt w taken y (8 * i) st l.octets l.numbers packets places answers st' packets' places' answers') f
        (subst (λ (y : Words). TurnsAt y taken to (8 * i) st l.octets l.numbers packets places answers st' packets' places' answers') e t) in
        subst (λ (y : Amounts). Done (i + 1) y st' answers' packets' places') (sym f)
        (done-as (i + 1) next st' _ _ _ _ _ _ u.answered u.wrote u.handed (more st' u.a u.p u.q u.turns u.size-p u.size-q u.size-a))

  -- when all calls have run, and each has its eight places for an answer
  pub ran : (i : ℕ) (taken : Amounts) (st : State) (answers packets : List ℕ) (places : List Float) → n - i ≡ 0 → n ≡ length l.calls / 8
      → length answers₀ ≤ 8 * i → Done i taken st answers packets places → RunsAll st₀ l answers packets places st
  ran i taken st answers packets places z e h d =
      let ends : calls_from l (n - i) i taken ≡ [] = no_more i taken z in
      let rs : trace host st₀ (calls_from l n 0 nothing) ≡ d.done =
      d.outcome ∙ ap (λ (cs : List Call). d.done ++ trace host st cs) ends ∙ append-nil d.done in
      let t : final host st₀ (calls_from l n 0 nothing) ≡ st = d.left ∙ ap (final host st) ends in
      record {
        leaves =
            left_is _ _ _ _ _ _ _ _
            (d.answered.holds ∙ ap (λ (y : List ℕ). all numbers_in d.done ++ y) (drop_of_length-le answers₀ {i = 8 * i} h) ∙ append-nil (all numbers_in d.done) ∙ ap (all numbers_in) (sym rs))
            (laid-all _ _ _ _ d.wrote ∙ ap (λ (y : List Reply). written l.packets 0 (all packets_in y)) (sym rs))
            (laid-all _ _ _ _ d.handed ∙ ap (λ (y : List Reply). written l.places 0 (all buffer_in y)) (sym rs))
            (sym t)
            ∙ ap (λ (k : ℕ). left_of (calls_from l k 0 nothing)) e;
      }
