-- The account of the session in hand stands. Assumes nothing.
use Rattle.std.specs.Prelude.{⊤, Option, Some, None, Result, Ok, Err, IfOk}
use Prim.Native.Nat.{ℕ, ◌*◌}
use mathlib.Core.Path.{◌≡◌, sym, subst}
use mathlib.Core.List.{List}
use lib.ListN.{length}
use lib.Dec.{T}
use lib.Ieee.{Float}
use Rattle.examining.specs.declared.sitting.Unseated.{Unseated}
use Rattle.model.specs.Gives.{joined}
use Rattle.model.specs.declared.settings.Settings.{Settings}
use Rattle.lines.specs.Call.{Fit}
use Rattle.encoding.specs.Lists.{Lent}
use Rattle.tally.specs.Table.{most_stretches}
use Rattle.examining.specs.Marks.{Sits, ran, Marks}
use Rattle.examining.specs.Stands.{Stands}
use Rattle.examining.proofs.Standings.{opened-stands, marked-stands}
use Rattle.examining.specs.declared.sitting.Sitting.{Sitting}
use Rattle.examining.specs.declared.sitting.Unmarked.{Unmarked}
use Rattle.holding.proofs.Fits.{fit-ran}
use Rattle.holding.specs.Held.{Goes, Holds, Kept}

-- ---- opened

pub sits-stands : (r : Result Sitting Unseated) (s : Settings) (opening : ℕ) (samples : List Float) (t : List ℕ) → Sits r s opening → length samples ≡ 476
    → length t ≡ 7 * most_stretches → IfOk r (λ x. Stands (joined x.session samples) t x.account)
sits-stands (Ok x) s opening samples t h size places =
    subst (λ (y : Sitting). Stands (joined y.session samples) t y.account) (sym h.opens) (opened-stands s opening samples t (subst T h.accepted tt) size places)
sits-stands (Err e) s opening samples t h size places = tt

-- ---- called

pub goes : (r : Result ⊤ Unmarked) (s s' : Sitting) (samples : List Float) (l : Lent) (answers₀ answers packets : List ℕ) (places samples' : List Float) (t t' : List ℕ)
    → Marks r (joined s.session samples) l s.account s'.account answers₀ answers packets places (joined s'.session samples') t t'
    → Goes r s s' samples l answers₀ answers packets places samples' t t'
goes r s s' samples l answers₀ answers packets places samples' t t' m =
    record {
      marks = m;
      run = fit-ran (ran r) _ l answers₀ answers packets places _ m.carries m.one m.lent;
      stands = marked-stands r _ l s.account s'.account answers₀ answers packets places _ t t' m;
    }

-- ---- held

pub holds-none : (samples : List Float) (t : List ℕ) → Holds None samples t
holds-none samples t = record { account = tt }

-- what is held is kept beside any samples
pub kept : (h : Option Sitting) (samples : List Float) (table : List ℕ) → Holds h samples table → Kept h table
kept None samples table x = record { account = tt }
kept (Some s) samples table x = record { account = (samples, x.account) }

-- ---- called, as its promise has it

module _ (r : Result ⊤ Unmarked) (s s' : Sitting) (samples : List Float) (l : Lent) (answers₀ answers packets : List ℕ) (places samples' : List Float) (t t' : List ℕ)
    (g : Goes r s s' samples l answers₀ answers packets places samples' t t') where
  -- what a line was read as is always run
  pub goes-ran : Fit l.calls → ran r ≡ Ok tt
  goes-ran = g.run

  -- where it is noted the account stands as it did; else the session is held no more
  pub goes-holds : Holds (Some s) samples t → r ≡ Ok tt → Holds (Some s') samples' t'
  goes-holds x e = record { account = g.stands e x.account }
