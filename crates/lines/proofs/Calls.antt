-- A call by its name, and a line: what each way through gives. Assumes nothing.
use mathlib.Core.Path.{◌≡◌, refl, sym, ap, ◌∙◌}
use mathlib.Core.List.{List, []}
use Prim.Native.Nat.{ℕ, ◌≤◌, ◌<◌}
use native.Mathlib.Omega.{arith}
use mathlib.Core.Bool.{true, false}
use borrow.Author.Tests.{lt-ltb, le-ltb}
use lib.ListN.{length}
use Rattle.base.proofs.Picks.{pick-t, pick-f}
use Rattle.text.specs.Split.{words}
use Rattle.encoding.specs.declared.lent.Asked.{Asked}
use Rattle.lines.specs.declared.Endpoint.{Endpoint}
use Rattle.lines.specs.declared.Expected.{Expected}
use Rattle.lines.specs.declared.Read.{Read}
use Rattle.lines.specs.declared.call.Values.{Values}
use Rattle.std.specs.Prelude.{Option, Some, None, Ok, Err}
use Rattle.lines.specs.declared.argument.Kind.{Kind}
use Rattle.lines.specs.declared.option.Untaken.{Untaken}
use Rattle.lines.specs.Key.{buffer_key, key_count, unread_words, unsaid}
use Rattle.lines.specs.declared.name.Name.{Name}
use Rattle.lines.specs.declared.name.Name.TheVariants.{Open}
use Rattle.lines.specs.Name.{is, form, Begins}
use Rattle.lines.specs.Argument.{unread, if_read, argument_octets, arguments_seen, Arguments}
use Rattle.lines.specs.Option.{Took, Taken, expected_of, options_took, options_values, options_numbers, options_seen, Ran}
use Rattle.lines.specs.Call.{Told, expected_word, worded, optioned, arguments_of, options_of, asks, read_named, read_as, read_words, words_of, longest, read_line, values_of, call_of, octets_of, on_call, named_seen, Named, of_called, of_named, of_line, line_octets, line_numbers, Lent}
use Rattle.lines.proofs.Forms.{keys-within}
use Rattle.lines.proofs.Bounds.{HeldWords, HeldKeys, held-unsaid, held-options, held-form, fit}

kept : (x : Told) → (x ≡ Ok Read.Call → ⊥) → (new other : List ℕ) → other ≡ on_call x new other
kept (Ok Read.Call) f new other = absurd (f refl)
kept (Ok Read.Nothing) f new other = refl
kept (Ok Read.Open) f new other = refl
kept (Ok Read.State) f new other = refl
kept (Ok Read.Radio) f new other = refl
kept (Err x) f new other = refl

ok-same : (r : Read) → ◌≡◌ {A = Told} (Ok r) (Ok Read.Call) → r ≡ Read.Call
ok-same r e = cc

module _ (name : Name) (radio : Endpoint) (lent : Asked) (ws : List (List ℕ)) (r : Option Kind) (left m e : List ℕ) (g : Arguments (form name).words unread_words lent.octets ws r left m e) where
  -- what is lent, where a word or an option stops the reading
  abbrev with : List ℕ → List ℕ → Asked
  with d n = record { call = lent.call; octets = d; numbers = n }

  pub not-read : (t : Kind) → r ≡ Some t → Named name radio lent ws (Err (expected_word t)) (with e lent.numbers)
  unfolding read_named named_seen
  not-read t h =
      let u : unread (form name).words ws ≡ Some t = sym g.told ∙ h in
      record {
        told = rw u;
        call = refl;
        octets = g.seen;
        numbers = rw u;
        fit = λ q. let z : ◌≡◌ {A = ℕ} 0 1 = cc in absurd (omega arith);
      }

  module _ (h : r ≡ None) (to : ℕ) (k : to ≡ (form name).keys_end) (q : Took) (m2 : List (Option ℕ)) (n2 : List ℕ) (o : Ran buffer_key to unsaid lent.numbers (words left) q m2 n2) where
    values-here : m ≡ arguments_of name ws
    values-here = g.values h

    told_here : optioned q Expected.End (Ok (asks name)) ≡ read_named name ws
    unfolding read_named
    told_here =
        ap (λ (x : Took). optioned x Expected.End (Ok (asks name)))
        (o.told
        ∙ ap (λ (x : ℕ). options_took buffer_key x unsaid (words left)) k
        ∙ ap (options_took buffer_key (form name).keys_end unsaid) (g.follows h))
        ∙ sym (ap (λ (x : Option Kind). worded x (optioned (options_took buffer_key (form name).keys_end unsaid (options_of name ws)) Expected.End (Ok (asks name)))) (sym g.told ∙ h))

    seen_here : n2 ≡ named_seen name ws lent.numbers
    unfolding named_seen
    seen_here =
        o.seen
        ∙ ap (λ (x : ℕ). options_seen buffer_key x unsaid lent.numbers (words left)) k
        ∙ ap (options_seen buffer_key (form name).keys_end unsaid lent.numbers) (g.follows h)
        ∙ sym (ap (λ (x : Option Kind). if_read x (options_seen buffer_key (form name).keys_end unsaid lent.numbers (options_of name ws)) lent.numbers) (sym g.told ∙ h))

    stopped : (x : Told) → (x ≡ Ok Read.Call → ⊥) → x ≡ read_named name ws → Named name radio lent ws x (with e n2)
    stopped x f t =
        record {
          told = t;
          call = kept x f _ _;
          octets = g.seen ∙ kept x f _ _;
          numbers = seen_here ∙ kept x f _ _;
          fit = λ q. absurd (f q);
        }

    pub untaken : (x : Untaken) → q ≡ Err x → Named name radio lent ws (Err (expected_of x Expected.End)) (with e n2)
    untaken x t = stopped _ (λ q. let z : ◌≡◌ {A = ℕ} 0 1 = cc in omega arith) (rw t at told_here)

    module _ (t : q ≡ Taken) where
      named_here : Ok (asks name) ≡ read_named name ws
      named_here = rw t at told_here

      pub asked : (r : Read) → r ≡ asks name → (r ≡ Read.Call → ⊥) → Named name radio lent ws (Ok r) (with e n2)
      asked r f k = stopped _ (λ v. k (ok-same r v)) (ap (λ (x : Read). Ok x) f ∙ named_here)

      abbrev said_here : Values
      said_here = record { words = m; keys = m2 }

      values-then : said_here ≡ values_of name ws
      unfolding values_of
      values-then =
          ap (λ (x : List ℕ). record { words = x; keys = m2 }) values-here
          ∙ ap (λ (x : List (Option ℕ)). record { words = arguments_of name ws; keys = x }) (o.values t ∙ ap (options_values unsaid) (g.follows h))

      pub held-words : HeldWords name m
      held-words = rw values-here (held-form name ws)

      pub held-keys : HeldKeys m2
      held-keys =
          let b : to ≤ key_count = omega (arith, k, keys-within name) in
          rw (o.values t) (held-options buffer_key to (words left) unsaid b (sym o.told ∙ t) held-unsaid)

      pub done : asks name ≡ Read.Call → radio.ip < 4294967296 → (c y : List ℕ) → c ≡ call_of name radio said_here → y ≡ octets_of name said_here e → Named name radio lent ws (Ok Read.Call) (record { call = c; octets = y; numbers = n2 })
      done f l c y p w =
          record {
            told = ap (λ (x : Read). Ok x) (sym f) ∙ named_here;
            call = p ∙ ap (call_of name radio) values-then;
            octets = w ∙ ap (λ (x : Values). octets_of name x e) values-then ∙ ap (octets_of name (values_of name ws)) (g.octets h);
            numbers = o.numbers t ∙ ap (options_numbers lent.numbers) (g.follows h);
            fit = λ q. rw p (fit name said_here held-words held-keys radio l);
          }

-- ---- a line

module _ (line : List ℕ) (radio : Endpoint) (lent : Asked) where
  -- a line without the words of a call's name leaves what is lent as it was
  no_call : (x : Told) → (x ≡ Ok Read.Call → ⊥) → x ≡ read_line line → ((f : Name → List (List ℕ) → List ℕ) (z : List ℕ) → z ≡ of_line f z line) → Lent line radio lent x lent
  no_call x f t u =
      record {
        told = t;
        call = kept x f _ _;
        octets = u _ lent.octets ∙ kept x f _ _;
        numbers = u _ lent.numbers ∙ kept x f _ _;
        fit = λ q. absurd (f q);
      }

  pub too_long : longest < length line → Lent line radio lent (Err Expected.ShorterLine) lent
  unfolding read_line of_line
  too_long h =
      no_call _ (λ q. let z : ◌≡◌ {A = ℕ} 0 1 = cc in omega arith) (sym (pick-t _ _ _ (lt-ltb _ _ h)))
      (λ f z. sym (pick-t _ _ _ (lt-ltb _ _ h)))

  module _ (h : length line ≤ longest) where
    by-words : read_words (words_of line) ≡ read_line line
    unfolding read_line
    by-words = sym (pick-f _ _ _ (le-ltb _ _ h))

    of_words : (f : Name → List (List ℕ) → List ℕ) (y : List ℕ) → of_named f y (words_of line) ≡ of_line f y line
    unfolding of_line
    of_words f y = sym (pick-f _ _ _ (le-ltb _ _ h))

    pub nothing : words_of line ≡ [] → Lent line radio lent (Ok Read.Nothing) lent
    unfolding read_words of_named
    nothing o =
        no_call _ (λ q. let z : ◌≡◌ {A = ℕ} 0 1 = cc in omega arith) (ap read_words (sym o) ∙ by-words)
        (λ f y. ap (of_named f y) (sym o) ∙ of_words f y)

    module _ (word : List ℕ) (name : Option Name) (rest : List ℕ) (g : Begins line word name rest) where
      by-name : read_as name (words rest) ≡ read_line line
      unfolding read_words
      by-name = ap (λ (x : Option Name). read_as x (words rest)) g.named ∙ ap read_words (sym g.reads) ∙ by-words

      of_name : (f : Name → List (List ℕ) → List ℕ) (y : List ℕ) → of_called f y name (words rest) ≡ of_line f y line
      unfolding of_named
      of_name f y = ap (λ (x : Option Name). of_called f y x (words rest)) g.named ∙ ap (of_named f y) (sym g.reads) ∙ of_words f y

      pub not-a-call : name ≡ None → Lent line radio lent (Err Expected.Call) lent
      unfolding read_as of_called
      not-a-call v =
          no_call _ (λ q. let z : ◌≡◌ {A = ℕ} 0 1 = cc in omega arith) (rw v at by-name) (λ f y. ap (λ (x : Option Name). of_called f y x (words rest)) (sym v) ∙ of_name f y)

      module _ (call : Name) (v : name ≡ Some call) where
        of_call : (f : Name → List (List ℕ) → List ℕ) (y : List ℕ) → of_called f y (Some call) (words rest) ≡ of_line f y line
        of_call f y = ap (λ (x : Option Name). of_called f y x (words rest)) (sym v) ∙ of_name f y

        pub opens : is call Open ≡ true → Lent line radio lent (Ok Read.Open) lent
        unfolding read_as of_called
        opens y =
            no_call _ (λ q. let z : ◌≡◌ {A = ℕ} 0 1 = cc in omega arith)
            (sym (pick-t _ _ _ y) ∙ ap (λ (x : Option Name). read_as x (words rest)) (sym v) ∙ by-name)
            (λ f u. sym (pick-t _ _ _ y) ∙ of_call f u)

        module _ (o : is call Open ≡ false) where
          of-this : (f : Name → List (List ℕ) → List ℕ) (y : List ℕ) → f call (words rest) ≡ of_line f y line
          unfolding of_called
          of-this f y = sym (pick-f _ _ _ o) ∙ of_call f y

          pub called : (r : Told) (c : Asked) → Named call radio lent (words rest) r c → Lent line radio lent r c
          unfolding read_as
          called r c t =
              let ws = words rest in
              let d = lent.octets in
              let n = lent.numbers in
              record {
                told = t.told ∙ sym (pick-f _ _ _ o) ∙ ap (λ (x : Option Name). read_as x ws) (sym v) ∙ by-name;
                call = t.call ∙ ap (λ (x : List ℕ). on_call r x lent.call) (of-this (λ i vs. call_of i radio (values_of i vs)) []);
                octets =
                    t.octets
                    ∙ ap (λ (x : List ℕ). on_call r x (arguments_seen (form call).words ws d)) (of-this (λ i vs. octets_of i (values_of i vs) (argument_octets (form i).words vs d)) d)
                    ∙ ap (on_call r (line_octets line d)) (of-this (λ i vs. arguments_seen (form i).words vs d) d);
                numbers =
                    t.numbers
                    ∙ ap (λ (x : List ℕ). on_call r x (named_seen call ws n)) (of-this (λ i vs. options_numbers n (options_of i vs)) n)
                    ∙ ap (on_call r (line_numbers line n)) (of-this (λ i vs. named_seen i vs n) n);
                fit = t.fit;
              }
