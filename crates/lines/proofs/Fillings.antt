-- The words of a form, one by one: what each turn of the loop over them leaves. Assumes nothing.
use mathlib.Core.Path.{◌≡◌, refl, sym, ap, ◌∙◌}
use mathlib.Core.List.{List, [], ◌∷◌}
use Prim.Native.Nat.{ℕ, suc, ◌+◌, ◌-◌, ◌≤◌, ◌<◌}
use native.Mathlib.Numerals.{add-one}
use native.Mathlib.Omega.{arith}
use lib.ListN.{length, drop, get_or, set, drop_of_length-le}
use lib.Seq.{drop-cons}
use Rattle.octets.specs.Written.{written}
use Rattle.text.specs.Split.{words, FirstWord}
use Rattle.std.specs.Prelude.{Some, None}
use Rattle.lines.specs.declared.argument.Kind.{Kind}
use Rattle.lines.specs.declared.argument.Kind.TheVariants.{Reading, Number, Octet, Places, Sender, Octets}
use Rattle.lines.specs.Key.{most_octets}
use Rattle.lines.specs.Argument.{argument, octets_as, octets_seen_as, unread, argument_values, argument_octets, arguments_seen, arguments_rest, Arguments}
use Rattle.values.specs.Octets.{octet_count}
use Rattle.values.proofs.Values.{given-no, given_yes, up-to-number}
use Rattle.values.proofs.Hexadecimals.{seen-octets}

-- ---- of a word that can be read, what was seen is the whole of it

seen-whole : (t : Kind) (w d : List ℕ) (v : ℕ) → argument t w ≡ Some v → octets_seen_as t w d ≡ octets_as t w d
seen-whole Reading w d v e = refl
seen-whole Number w d v e = refl
seen-whole Octet w d v e = refl
seen-whole Places w d v e = refl
seen-whole Sender w d v e = refl
seen-whole Octets w d v e = ap (written d 0) (seen-octets w v (up-to-number most_octets (octet_count w) v e))

-- ---- word by word

-- the first j words of the form are read, and have left m and n
pub record Filling (ts : List Kind) (s l d left : List ℕ) (j : ℕ) (m n : List ℕ) : Type 0 where
  pub most : j ≤ length ts
  pub told : unread (drop j ts) (words left) ≡ unread ts (words s)
  pub values : argument_values j (drop j ts) (words left) m ≡ argument_values 0 ts (words s) l
  pub octets : argument_octets (drop j ts) (words left) n ≡ argument_octets ts (words s) d
  pub seen : arguments_seen (drop j ts) (words left) n ≡ arguments_seen ts (words s) d
  pub follows : drop (length ts - j) (words left) ≡ drop (length ts) (words s)
  pub rest : arguments_rest (drop j ts) (words left) ≡ arguments_rest ts (words s)

module _ (ts : List Kind) (s l d left : List ℕ) (j : ℕ) (m n : List ℕ) (i : Filling ts s l d left j m n) where
  pub filled : length ts ≤ j → Arguments ts l d (words s) None left m n
  unfolding unread argument_values argument_octets arguments_seen arguments_rest
  filled h =
      let z = drop_of_length-le ts {i = j} h in
      let k : length ts - j ≡ 0 = omega arith in
      record {
        told = sym (ap (λ (x : List Kind). unread x (words left)) z) ∙ i.told;
        values = λ t. sym (ap (λ (x : List Kind). argument_values j x (words left) m) z) ∙ i.values;
        octets = λ t. sym (ap (λ (x : List Kind). argument_octets x (words left) n) z) ∙ i.octets;
        seen = sym (ap (λ (x : List Kind). arguments_seen x (words left) n) z) ∙ i.seen;
        follows = λ t. sym (ap (λ (x : ℕ). drop x (words left)) k) ∙ i.follows;
        rest = sym (ap (λ (x : List Kind). arguments_rest x (words left)) z) ∙ i.rest;
      }

  module _ (h : j < length ts) (t : Kind) (k : t ≡ get_or ts j Reading) where
    next : drop j ts ≡ t ∷ drop (suc j) ts
    next = drop-cons ts j Reading h ∙ ap (λ (x : Kind). x ∷ drop (suc j) ts) (sym k)

    unread-here : (x y : List ℕ) → Some t ≡ unread ts (words s) → words left ≡ arguments_rest ts (words s)
        → y ≡ arguments_seen ts (words s) d → Arguments ts l d (words s) (Some t) left x y
    unread-here x y q v u =
        record {
          told = q;
          values = λ z. let z : ◌≡◌ {A = ℕ} 0 1 = cc in absurd (omega arith);
          octets = λ z. let z : ◌≡◌ {A = ℕ} 0 1 = cc in absurd (omega arith);
          seen = u;
          follows = λ z. let z : ◌≡◌ {A = ℕ} 0 1 = cc in absurd (omega arith);
          rest = v;
        }

    pub not_there : words left ≡ [] → Arguments ts l d (words s) (Some t) left m n
    unfolding unread arguments_seen arguments_rest
    not_there o =
        unread-here m n (sym (ap (λ (x : List Kind). unread x []) next) ∙ ap (unread (drop j ts)) (sym o) ∙ i.told)
        (o ∙ sym (ap (λ (x : List Kind). arguments_rest x []) next) ∙ ap (arguments_rest (drop j ts)) (sym o) ∙ i.rest)
        (sym (ap (λ (x : List Kind). arguments_seen x [] n) next) ∙ ap (λ (x : List (List ℕ)). arguments_seen (drop j ts) x n) (sym o) ∙ i.seen)

    module _ (word rest : List ℕ) (f : FirstWord left word rest) where
      told-next : unread (t ∷ drop (suc j) ts) (word ∷ words rest) ≡ unread ts (words s)
      told-next =
          ap (λ (x : List Kind). unread x (word ∷ words rest)) (sym next)
          ∙ ap (unread (drop j ts)) (sym f.reads)
          ∙ i.told

      rest-next : arguments_rest (t ∷ drop (suc j) ts) (word ∷ words rest) ≡ arguments_rest ts (words s)
      rest-next =
          ap (λ (x : List Kind). arguments_rest x (word ∷ words rest)) (sym next)
          ∙ ap (arguments_rest (drop j ts)) (sym f.reads)
          ∙ i.rest

      seen_next : arguments_seen (t ∷ drop (suc j) ts) (word ∷ words rest) n ≡ arguments_seen ts (words s) d
      seen_next =
          ap (λ (x : List Kind). arguments_seen x (word ∷ words rest) n) (sym next)
          ∙ ap (λ (x : List (List ℕ)). arguments_seen (drop j ts) x n) (sym f.reads)
          ∙ i.seen

      pub not-read : (p : List ℕ) → argument t word ≡ None → p ≡ octets_seen_as t word n → Arguments ts l d (words s) (Some t) left m p
      unfolding unread arguments_seen arguments_rest
      not-read p r q =
          unread-here m p (sym (given-no _ _ _ r) ∙ told-next) (f.reads ∙ sym (given-no _ _ _ r) ∙ rest-next)
          (q ∙ sym (given-no _ _ _ r) ∙ seen_next)

      pub read-on : (v : ℕ) (p : List ℕ) → argument t word ≡ Some v → p ≡ octets_seen_as t word n → Filling ts s l d rest (j + 1) (set m j v) p
      unfolding unread argument_values argument_octets arguments_seen arguments_rest
      read-on v p r q =
          let o = f.reads in
          let up : drop (j + 1) ts ≡ drop (suc j) ts = ap (λ (f : ℕ). drop f ts) (add-one j) in
          let g : length ts - j ≡ suc (length ts - (j + 1)) = omega arith in
          record {
            most = omega arith;
            told = ap (λ (f : List Kind). unread f (words rest)) up ∙ sym (given_yes _ _ _ v r) ∙ told-next;
            values =
                ap (λ (c : List Kind). argument_values (j + 1) c (words rest) (set m j v)) up
                ∙ ap (λ (c : ℕ). argument_values (j + 1) (drop (suc j) ts) (words rest) (set m j c)) (sym (given_yes _ (λ (c : ℕ). c) 0 v r))
                ∙ ap (λ (c : List Kind). argument_values j c (word ∷ words rest) m) (sym next)
                ∙ ap (λ (c : List (List ℕ)). argument_values j (drop j ts) c m) (sym o)
                ∙ i.values;
            octets =
                ap (λ (c : List Kind). argument_octets c (words rest) p) up
                ∙ ap (argument_octets (drop (suc j) ts) (words rest)) (q ∙ seen-whole t word n v r)
                ∙ ap (λ (c : List Kind). argument_octets c (word ∷ words rest) n) (sym next)
                ∙ ap (λ (c : List (List ℕ)). argument_octets (drop j ts) c n) (sym o)
                ∙ i.octets;
            seen =
                ap (λ (c : List Kind). arguments_seen c (words rest) p) up
                ∙ ap (arguments_seen (drop (suc j) ts) (words rest)) q
                ∙ sym (given_yes _ _ _ v r)
                ∙ seen_next;
            follows =
                ap (λ (c : ℕ). drop c (word ∷ words rest)) (sym g)
                ∙ ap (drop (length ts - j)) (sym o)
                ∙ i.follows;
            rest = ap (λ (f : List Kind). arguments_rest f (words rest)) up ∙ sym (given_yes _ _ _ v r) ∙ rest-next;
          }
