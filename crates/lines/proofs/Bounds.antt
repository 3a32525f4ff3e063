-- The values that a line's words leave are within their limits. Assumes nothing.
use mathlib.Core.Path.{◌≡◌, refl, ap, ◌∙◌}
use mathlib.Core.Bool.{Bool, true, false}
use mathlib.Core.List.{List, [], ◌∷◌}
use Prim.Native.Nat.{ℕ, zero, suc, ◌+◌, ◌≤◌, ◌<◌}
use native.Mathlib.Omega.{arith}
use borrow.Author.Tests.{leb-true}
use lib.Dec.{leb}
use lib.ListN.{length, get_or, set, get_or-replicate}
use Rattle.base.specs.Pick.{pick}
use Rattle.std.specs.Prelude.{Option, Some, None, Ok, Err}
use Rattle.lines.specs.declared.argument.Kind.{Kind}
use Rattle.lines.specs.declared.argument.Kind.TheVariants.{Reading}
use Rattle.values.specs.Value.{given, up_to}
use Rattle.lines.specs.Key.{buffer_key, waiting_key, length_key, bits_key, samples_key, key_count, word_count, unread_words, unsaid, most_octets}
use Rattle.lines.specs.declared.name.Name.{Name}
use Rattle.lines.specs.Name.{form}
use Rattle.lines.specs.Argument.{most, argument_as, argument, argument_values}
use Rattle.lines.specs.Option.{Took, Taken, spelling, limit, spelt_as, key_at, value_at, equals_in, value_of, took, values_key, values_after, and_then, options_took, options_values}
use borrow.Author.Rules.{rules}
use Rattle.std.specs.Option.{unwrap_or}
use Rattle.lines.specs.declared.Endpoint.{Endpoint}
use Rattle.lines.specs.declared.call.Values.{Values}
use Rattle.lines.specs.Call.{or_else, call_of, Small, Fit}
use Rattle.lines.proofs.Forms.{four-words, eight-kinds, buffer-within, is-take}

get_or-set-le : (l : List ℕ) (i v k b : ℕ) → get_or l k 0 ≤ b → (k ≡ i → v ≤ b) → get_or (set l i v) k 0 ≤ b
get_or-set-le [] i v k b h e = h
get_or-set-le (x ∷ xs) zero v zero b h e = e refl
get_or-set-le (x ∷ xs) zero v (suc k) b h e = h
get_or-set-le (x ∷ xs) (suc i) v zero b h e = h
get_or-set-le (x ∷ xs) (suc i) v (suc k) b h e = get_or-set-le xs i v k b h (λ q. e (ap suc q))

up-to-most : (m : ℕ) (x : Option ℕ) → given (up_to m x) (λ n. n) 0 ≤ m
unfolding given pick
up-to-most m (Some v) = held (leb v m) refl
  where
    held : (b : Bool) → leb v m ≡ b → given (pick b (Some v) None) (λ n. n) 0 ≤ m
    held true t = leb-true v m t
    held false t = omega arith
up-to-most m None = omega arith

-- a key's value is within its limit where it was and where what is said is
get_or-said-le : (l : List (Option ℕ)) (i v k b : ℕ) → unwrap_or (get_or l k None) 0 ≤ b → (k ≡ i → v ≤ b) → unwrap_or (get_or (set l i (Some v)) k None) 0 ≤ b
get_or-said-le [] i v k b h e = h
get_or-said-le (x ∷ xs) zero v zero b h e = e refl
get_or-said-le (x ∷ xs) zero v (suc k) b h e = h
get_or-said-le (x ∷ xs) (suc i) v zero b h e = h
get_or-said-le (x ∷ xs) (suc i) v (suc k) b h e = get_or-said-le xs i v k b h (λ q. e (ap suc q))

-- every key's value is within its key's limit
pub record HeldKeys (l : List (Option ℕ)) : Type 0 where
  pub options : (k : ℕ) → k < key_count → or_else l k 0 ≤ limit k

-- every word's of the form is within its own
pub record HeldWords (name : Name) (l : List ℕ) : Type 0 where
  pub words : (j : ℕ) → j < 4 → get_or l j 0 ≤ most (get_or (form name).words j Reading)

pub held-unsaid : HeldKeys unsaid
held-unsaid = record { options = λ k h. rw (get_or-replicate {A = Option ℕ} key_count k None None h) (omega arith) }

held-unread : (name : Name) → HeldWords name unread_words
held-unread name = record { words = λ j h. omega (arith, get_or-replicate {A = ℕ} word_count j 0 0 (omega arith)) }

held_word : (name : Name) (l : List ℕ) (j v : ℕ) → HeldWords name l → v ≤ most (get_or (form name).words j Reading) → HeldWords name (set l j v)
held_word name l j v h b = record { words = λ i d. get_or-set-le l j v i _ (h.words i d) (λ z. rw z b) }

pub held-arguments : (name : Name) (ts : List Kind) (ws : List (List ℕ)) (j : ℕ) (l : List ℕ) → j + length ts ≤ 4 → ((i : ℕ) → get_or ts i Reading ≡ get_or (form name).words (j + i) Reading)
    → HeldWords name l → HeldWords name (argument_values j ts ws l)
unfolding argument_values
held-arguments name [] ws j l d e h = h
held-arguments name (t ∷ ts) [] j l d e h = h
held-arguments name (t ∷ ts) (w ∷ ws) j l d e h =
    let v = given (argument t w) (λ n. n) 0 in
    let k : t ≡ get_or (form name).words j Reading = e 0 ∙ ap (λ (i : ℕ). get_or (form name).words i Reading) (let z : j + 0 ≡ j = omega arith in z) in
    let f : (i : ℕ) → get_or ts i Reading ≡ get_or (form name).words (j + 1 + i) Reading =
    λ i. e (suc i) ∙ ap (λ (x : ℕ). get_or (form name).words x Reading) (let z : j + suc i ≡ j + 1 + i = omega arith in z) in
    held-arguments name ts ws (j + 1) (set l j v) (omega arith) f (held_word name l j v h (omega (arith, ap most k, up-to-most (most t) (argument_as t w))))

-- ---- options

held-option : (from to : ℕ) (l : List (Option ℕ)) (w : List ℕ) → to ≤ key_count → took from to l w ≡ Taken → HeldKeys l → HeldKeys (values_after l w)
unfolding values_after values_key
held-option from to l w o t h =
    let k = key_at (equals_in w) w in
    record {
      options =
          λ i d. get_or-said-le l k (given (value_of k (value_at (equals_in w) w)) (λ n. n) 0) i _ (h.options i d)
          (λ z. rw z (up-to-most (limit k) (spelt_as (spelling k) (value_at (equals_in w) w))));
    }

and-taken : (a b : Took) → and_then a b ≡ Taken → (a ≡ Taken) × (b ≡ Taken)
unfolding and_then
and-taken (Ok u) b e = (refl, e)
and-taken (Err x) b e = let z : ◌≡◌ {A = ℕ} 0 1 = cc in absurd (omega arith)

pub held-options : (from to : ℕ) (ws : List (List ℕ)) (l : List (Option ℕ)) → to ≤ key_count → options_took from to l ws ≡ Taken → HeldKeys l
    → HeldKeys (options_values l ws)
unfolding options_took options_values
held-options from to [] l o e h = h
held-options from to (w ∷ ws) l o e h =
    let t = and-taken (took from to l w) (options_took from to (values_after l w) ws) e in
    held-options from to ws (values_after l w) o t.1 (held-option from to l w o t.0 h)

pub held-form : (name : Name) (ws : List (List ℕ)) → HeldWords name (argument_values 0 (form name).words ws unread_words)
held-form name ws = held-arguments name (form name).words ws 0 unread_words (omega (arith, four-words name)) (λ i. ap (λ (x : ℕ). get_or (form name).words x Reading) (let z : i ≡ 0 + i = omega arith in z)) (held-unread name)

-- ---- what the limits give

pub or-else-most : (l : List (Option ℕ)) (key other b : ℕ) → or_else l key 0 ≤ b → other ≤ b → or_else l key other ≤ b
or-else-most l key other b h o = go (get_or l key None) h
  where
    go : (x : Option ℕ) → unwrap_or x 0 ≤ b → unwrap_or x other ≤ b
    go None h = o
    go (Some v) h = h

module _ (name : Name) (l : Values) (g : HeldWords name l.words) (h : HeldKeys l.keys) where
  pub small : Small name l
  small = (
    λ e. let z = g.words 2 (omega arith) in omega (arith, rw e at z),
    λ e. let z = g.words 2 (omega arith) in omega (arith, rw e at z),
    omega (arith, or-else-most l.keys bits_key 24 65535 (h.options bits_key (omega arith)) (omega arith)),
    omega (arith, or-else-most l.keys samples_key 238 65535 (h.options samples_key (omega arith)) (omega arith)),
  )

  length-most : or_else l.keys length_key 1444 ≤ most_octets
  length-most = or-else-most l.keys length_key 1444 most_octets (h.options length_key (omega arith)) (omega arith)

  buffer-most : or_else l.keys buffer_key (form name).buffer ≤ 8192
  buffer-most = or-else-most l.keys buffer_key (form name).buffer 8192 (h.options buffer_key (omega arith)) (omega (arith, buffer-within name))

  pub fit : (radio : Endpoint) → radio.ip < 4294967296 → Fit (call_of name radio l)
  unfolding call_of
  fit radio b =
      record {
        kind = eight-kinds name;
        address = let z = g.words 2 (omega arith) in search rules;
        port = search rules;
        octets = let z = g.words 3 (omega arith) in let y = length-most in search rules;
        waiting = h.options waiting_key (omega arith);
        places = let z = g.words 1 (omega arith) in let y = buffer-most in search rules;
        taken = λ e. let t = is-take name e in let z = g.words 1 (omega arith) in search rules;
      }
