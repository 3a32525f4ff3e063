-- `discovery::reply_p2` meets its contract: its fields, where its status is one. Assumes nothing.
use Prim.Native.Nat.{ℕ}
use mathlib.Core.Path.{◌≡◌, ◌∙◌}
use mathlib.Core.List.{[], ◌∷◌}
use lib.ListN.{get_or}
use Rattle.base.specs.Told.{Told, gives}
use Rattle.discovery.specs.Reply.{status_number, told_of, checked}
use Rattle.discovery.proofs.Replies.{replied}
use Rattle.discovery.proofs.reply_p2.Goals as goal

pub returns : goal.returns
returns c =
    let b = c.args.buf.now in
    let told : ℕ → Told = λ s. gives (2 ∷ s ∷ get_or b 11 0 ∷ get_or b 13 0 ∷ get_or b 20 0 ∷ []) in
    let read : told_of c.checked.result ≡ checked (get_or b 4 0) (record { told = told (status_number c.status_of.result); mac = c.mac_at.result }) = c.checked.ensures in
    read ∙ replied (get_or b 4 0) told c.status_of.result _ _ c.status_of.ensures c.mac_at.ensures
