-- Options: what each way through a word gives, and a run of words. Assumes nothing.
use mathlib.Core.Path.{◌≡◌, refl, sym, ap, ◌∙◌}
use mathlib.Core.List.{List, [], ◌∷◌}
use Prim.Native.Nat.{ℕ, ◌≤◌, ◌<◌}
use native.Mathlib.Omega.{arith}
use borrow.Author.Tests.{lt-ltb, le-ltb, le-leb, lt-leb}
use mathlib.Core.Bool.{Bool, true, false}
use lib.Dec.{ltb}
use Rattle.lines.specs.Key.{key_count}
use lib.ListN.{length, get_or, set}
use Rattle.base.proofs.Picks.{pick-t, pick-f}
use Rattle.octets.specs.Written.{written}
use Rattle.text.specs.Split.{words, FirstWord}
use Rattle.std.specs.Prelude.{is_some, is_err, Option, Some, None, Ok, Err}
use Rattle.lines.specs.declared.option.Spelling.{Spelling}
use Rattle.lines.specs.declared.option.Spelling.TheVariants.{Number, Reading, Double, Address, Board, Attenuation, Waiting}
use Rattle.lines.specs.declared.option.Untaken.{Untaken}
use Rattle.lines.specs.declared.option.Untaken.TheVariants.{Unknown, Unreadable}
use Rattle.lines.specs.Option.{Took, Taken, spelling, limit, spelt_as, numbers_as, numbers_seen_as, numbers_seen_for, key_at, value_at, equals_in, took_key, values_key, took, values_after, numbers_after, if_known, numbers_seen, value_of, numbers_for, Stepped, and_then, options_took, options_values, options_numbers, stopped, options_seen, options_rest, Ran}
use Rattle.values.proofs.Values.{given-no, given_yes, up-to-number}
use Rattle.values.proofs.Spans.{seen-numbers}

-- ---- of a value that can be read, what was seen is the whole of it

seen_as : (how : Spelling) (w d : List ℕ) (v : ℕ) → spelt_as how w ≡ Some v → numbers_seen_as how w d ≡ numbers_as how w d
seen_as Number w d v e = refl
seen_as Reading w d v e = refl
seen_as Double w d v e = refl
seen_as Address w d v e = refl
seen_as Board w d v e = refl
seen_as Attenuation w d v e = refl
seen_as Waiting w d v e = ap (written d 0) (seen-numbers w v e)

seen-whole : (key : ℕ) (w d : List ℕ) (v : ℕ) → value_of key w ≡ Some v → numbers_seen_for key w d ≡ numbers_for key w d
seen-whole key w d v e = seen_as (spelling key) w d v (up-to-number (limit key) (spelt_as (spelling key) w) v e)

-- ---- a word

module _ (from to : ℕ) (l : List (Option ℕ)) (d w : List ℕ) (m : List (Option ℕ)) where
  unknown : Err Unknown ≡ took from to l w → Stepped from to l d w (Err Unknown) m d
  unfolding numbers_seen if_known
  unknown e =
      record {
        told = e;
        values = λ t. let z : ◌≡◌ {A = ℕ} 0 1 = cc in absurd (omega arith);
        numbers = λ t. let z : ◌≡◌ {A = ℕ} 0 1 = cc in absurd (omega arith);
        seen = ap (λ (x : Took). if_known x (numbers_seen_for (key_at (equals_in w) w) (value_at (equals_in w) w) d) d) e;
      }

  module _ (equals : ℕ) (e : equals ≡ equals_in w) where
    pub no-equals : length w ≤ equals → Stepped from to l d w (Err Unknown) m d
    unfolding took
    no-equals h = unknown (sym (pick-t _ _ _ (le-leb (length w) (equals_in w) (omega arith))))

    module _ (h : equals < length w) (key : ℕ) (k : key ≡ key_at equals w) where
      by_key : took_key key (value_at equals w) from to l ≡ took from to l w
      unfolding took
      by_key =
          ap (λ (j : ℕ). took_key j (value_at equals w) from to l) k
          ∙ ap (λ (j : ℕ). took_key (key_at j w) (value_at j w) from to l) e
          ∙ sym (pick-f _ _ _ (lt-leb (length w) (equals_in w) (omega arith)))

      pub key_below : key < from → Stepped from to l d w (Err Unknown) m d
      unfolding took_key
      key_below b = unknown (sym (pick-t _ _ _ (lt-ltb _ _ b)) ∙ by_key)

      -- a word that is no key
      pub no-key : to ≤ key_count → key_count ≤ key → Stepped from to l d w (Err Unknown) m d
      unfolding took_key
      no-key u v = unknown (go (ltb key from) refl ∙ by_key)
        where
          go : (b : Bool) → ltb key from ≡ b → Err Unknown ≡ took_key key (value_at equals w) from to l
          go true t = sym (pick-t _ _ _ t)
          go false t = sym (pick-f _ _ _ t ∙ pick-t _ _ _ (le-leb to key (omega arith)))

      module _ (b : from ≤ key) where
        pub key_above : to ≤ key → Stepped from to l d w (Err Unknown) m d
        unfolding took_key
        key_above a = unknown (sym (pick-f _ _ _ (le-ltb _ _ b) ∙ pick-t _ _ _ (le-leb _ _ a)) ∙ by_key)

        module _ (a : key < to) where
          pub said-before : is_some (get_or l key None) ≡ true → Stepped from to l d w (Err Unknown) m d
          unfolding took_key
          said-before s = unknown (sym (pick-f _ _ _ (le-ltb _ _ b) ∙ pick-f _ _ _ (lt-leb _ _ a) ∙ pick-t _ _ _ s) ∙ by_key)

          module _ (s : is_some (get_or l key None) ≡ false) (n : List ℕ) (g : n ≡ numbers_seen_for key (value_at equals w) d) where
            seen-known : n ≡ numbers_seen_for (key_at (equals_in w) w) (value_at (equals_in w) w) d
            seen-known =
                g
                ∙ ap (λ (j : ℕ). numbers_seen_for j (value_at equals w) d) k
                ∙ ap (λ (j : ℕ). numbers_seen_for (key_at j w) (value_at j w) d) e

            pub unread-value : value_of key (value_at equals w) ≡ None → Stepped from to l d w (Err (Unreadable key)) m n
            unfolding took_key numbers_seen if_known
            unread-value r =
                let u : Err (Unreadable key) ≡ took from to l w =
                sym (pick-f _ _ _ (le-ltb _ _ b) ∙ pick-f _ _ _ (lt-leb _ _ a) ∙ pick-f _ _ _ s ∙ given-no _ _ _ r) ∙ by_key in
                record {
                  told = u;
                  values = λ t. let z : ◌≡◌ {A = ℕ} 0 1 = cc in absurd (omega arith);
                  numbers = λ t. let z : ◌≡◌ {A = ℕ} 0 1 = cc in absurd (omega arith);
                  seen = seen-known ∙ ap (λ (x : Took). if_known x (numbers_seen_for (key_at (equals_in w) w) (value_at (equals_in w) w) d) d) u;
                }

            pub taken : (v : ℕ) → value_of key (value_at equals w) ≡ Some v → m ≡ set l key (Some v)
                → Stepped from to l d w Taken m n
            unfolding took_key values_after values_key numbers_after numbers_seen if_known
            taken v r f =
                let u : Taken ≡ took from to l w =
                sym (pick-f _ _ _ (le-ltb _ _ b) ∙ pick-f _ _ _ (lt-leb _ _ a) ∙ pick-f _ _ _ s ∙ given_yes _ _ _ v r) ∙ by_key in
                record {
                  told = u;
                  values =
                      λ t. f
                      ∙ ap (λ (x : ℕ). set l key (Some x)) (sym (given_yes _ (λ (x : ℕ). x) 0 v r))
                      ∙ ap (λ (j : ℕ). values_key j (value_at equals w) l) k
                      ∙ ap (λ (j : ℕ). values_key (key_at j w) (value_at j w) l) e;
                  numbers =
                      λ t. g
                      ∙ seen-whole key (value_at equals w) d v r
                      ∙ ap (λ (j : ℕ). numbers_for j (value_at equals w) d) k
                      ∙ ap (λ (j : ℕ). numbers_for (key_at j w) (value_at j w) d) e;
                  seen = seen-known ∙ ap (λ (x : Took). if_known x (numbers_seen_for (key_at (equals_in w) w) (value_at (equals_in w) w) d) d) u;
                }

-- a result tells by its test whether a word was taken
pub why : (r : Took) → is_err r ≡ true → (x : Untaken) × (r ≡ Err x)
why (Ok u) e = cc
why (Err x) e = (x, refl)

pub was-taken : (r : Took) → is_err r ≡ false → r ≡ Taken
was-taken (Ok u) e = refl
was-taken (Err x) e = cc

-- ---- a run of words

-- the words before what is left were taken, and have left m and n
pub record Running (from to : ℕ) (s : List ℕ) (l : List (Option ℕ)) (d left : List ℕ) (m : List (Option ℕ)) (n : List ℕ) : Type 0 where
  pub told : options_took from to m (words left) ≡ options_took from to l (words s)
  pub values : options_values m (words left) ≡ options_values l (words s)
  pub numbers : options_numbers n (words left) ≡ options_numbers d (words s)
  pub seen : options_seen from to m n (words left) ≡ options_seen from to l d (words s)
  pub rest : options_rest from to m (words left) ≡ options_rest from to l (words s)

module _ (from to : ℕ) (s : List ℕ) (l : List (Option ℕ)) (d left : List ℕ) (m : List (Option ℕ)) (n : List ℕ) (i : Running from to s l d left m n) where
  pub no_more : words left ≡ [] → Ran from to l d (words s) Taken m n
  unfolding options_took options_values options_numbers options_seen
  no_more q =
      record {
        told = sym (ap (options_took from to m) q) ∙ i.told;
        values = λ t. sym (ap (options_values m) q) ∙ i.values;
        numbers = λ t. sym (ap (options_numbers n) q) ∙ i.numbers;
        seen = sym (ap (options_seen from to m n) q) ∙ i.seen;
      }

  pub no-rest : words left ≡ [] → words left ≡ options_rest from to l (words s)
  unfolding options_rest
  no-rest q = q ∙ sym (ap (options_rest from to m) q) ∙ i.rest

  module _ (word rest : List ℕ) (f : FirstWord left word rest) (r : Took) (o : List (Option ℕ)) (p : List ℕ) (t : Stepped from to m n word r o p) where
    told_here : and_then r (options_took from to (values_after m word) (words rest)) ≡ options_took from to l (words s)
    unfolding options_took
    told_here =
        ap (λ (x : Took). and_then x (options_took from to (values_after m word) (words rest))) t.told
        ∙ sym (ap (options_took from to m) f.reads)
        ∙ i.told

    rest-here : stopped r (word ∷ words rest) (options_rest from to (values_after m word) (words rest)) ≡ options_rest from to l (words s)
    unfolding options_rest
    rest-here =
        ap (λ (x : Took). stopped x (word ∷ words rest) (options_rest from to (values_after m word) (words rest))) t.told
        ∙ sym (ap (options_rest from to m) f.reads)
        ∙ i.rest

    seen_here : stopped r p (options_seen from to (values_after m word) p (words rest)) ≡ options_seen from to l d (words s)
    unfolding options_seen
    seen_here =
        ap (λ (x : Took). stopped x p (options_seen from to (values_after m word) p (words rest))) t.told
        ∙ ap (λ (x : List ℕ). stopped (took from to m word) x (options_seen from to (values_after m word) x (words rest))) t.seen
        ∙ sym (ap (options_seen from to m n) f.reads)
        ∙ i.seen

    module _ (x : Untaken) (q : r ≡ Err x) where
      pub stops-there : words left ≡ options_rest from to l (words s)
      unfolding stopped
      stops-there = f.reads ∙ (rw q at rest-here)

      pub stops-untaken : Ran from to l d (words s) r o p
      unfolding and_then stopped
      stops-untaken =
          record {
            told = q ∙ (rw q at told_here);
            values = λ t. let z : Err x ≡ Taken = sym q ∙ t in let z : ◌≡◌ {A = ℕ} 0 1 = cc in absurd (omega arith);
            numbers = λ t. let z : Err x ≡ Taken = sym q ∙ t in let z : ◌≡◌ {A = ℕ} 0 1 = cc in absurd (omega arith);
            seen = rw q at seen_here;
          }

    pub goes_on : r ≡ Taken → Running from to s l d rest o p
    unfolding and_then options_values options_numbers stopped
    goes_on q =
        record {
          told = ap (λ (v : List (Option ℕ)). options_took from to v (words rest)) (t.values q) ∙ (rw q at told_here);
          values =
              ap (λ (v : List (Option ℕ)). options_values v (words rest)) (t.values q)
              ∙ sym (ap (options_values m) f.reads)
              ∙ i.values;
          numbers =
              ap (λ (v : List ℕ). options_numbers v (words rest)) (t.numbers q)
              ∙ sym (ap (options_numbers n) f.reads)
              ∙ i.numbers;
          seen = ap (λ (v : List (Option ℕ)). options_seen from to v p (words rest)) (t.values q) ∙ (rw q at seen_here);
          rest = ap (λ (v : List (Option ℕ)). options_rest from to v (words rest)) (t.values q) ∙ (rw q at rest-here);
        }
