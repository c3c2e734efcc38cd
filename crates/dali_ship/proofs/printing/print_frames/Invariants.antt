use Rattle.std.proofs.Common.{◌+◌, drop}
use Rattle.dali_ship.specs.Printing.{SoFar}
use Rattle.dali_replica.specs.Shipping.{shipped}
use Rattle.dali_ship.proofs.Framing.{text_from}
use Rattle.dali_ship.proofs.printing.print_frames.Given as goal

abbrev pub invariant-loop-at : goal.invariant-loop-at
invariant-loop-at g l = SoFar g.T.Site.tells (shipped l.entries) l.piece.items (text_from (l.at + 1) (drop l.at l.entries)) (g.T.Site.sight l.fn.site) (g.T.Site.sight l.site)
