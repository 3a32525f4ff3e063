-- `receiving::hear::judge` meets its contract. Assumes nothing.
use Rattle.receiving.proofs.Hearings.{judged-event, judged-receiver}
use Rattle.receiving.proofs.hear.judge.Goals as goal

pub returns : goal.returns
returns c = let a = c.args in (
  judged-event a.rate a.r.now a.now a.count _ _ c.observe-seen.ensures _ _ _ c.unaccounted-since_last.ensures c.jump_limit.ensures c.capped.ensures,
  judged-receiver a.rate a.r.now a.now a.count _ _ c.observe-seen.ensures _ c.note_valid.ensures,
)
