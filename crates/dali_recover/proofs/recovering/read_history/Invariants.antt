use Rattle.std.specs.Prelude.{IsTrue}
use Rattle.dali_recover.specs.Pieces.{StandFrom}
use Rattle.dali_recover.specs.Taking.{SoFar}
use Rattle.dali_recover.proofs.recovering.read_history.Given as goal

-- so far, and the window has bytes of the device
abbrev pub invariant-loop-window : goal.invariant-loop-window
invariant-loop-window g l =
    SoFar g.T.Site.tells (g.T.Site.sight l.fn.site) (g.T.Site.sight l.site) l.found
    × (IsTrue g.T.Site.tells → StandFrom l.window.from l.window.bytes.items (g.T.Site.sight l.fn.site).bytes)

abbrev pub decreases-loop-window : goal.decreases-loop-window
decreases-loop-window g l = l.found.journal.left
