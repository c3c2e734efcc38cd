use Rattle.std.proofs.Common.{List, ℕ, ◌++◌, sym, subst}
use Rattle.dali_ship.specs.Printing.{SoFar}
use Rattle.dali_ship.proofs.Pieces.{held, wanted, on_empty}
use Rattle.dali_ship.proofs.printing.gather.Goals as goal

pub returns-in_default : goal.returns-in_default
returns-in_default g c text rest old far = (wanted g.T.Site.tells text c.args.piece.now.items (c.args.frame.now ++ rest) old (g.T.Site.sight c.args.site.now) far, tt)

pub returns : goal.returns
returns g c text rest old far =
    let mid = g.T.Site.sight c.args.site.now in
    let more = subst (λ (bytes : List ℕ). SoFar g.T.Site.tells text bytes rest old mid) (sym {A = List ℕ} c.in-Ok.ensures.items)
    (held g.T.Site.tells text c.args.piece.now.items rest old mid c.args.frame.now far) in
    on_empty g.T.Site.tells text rest old (g.T.Site.sight c.print_piece.new.site) c.print_piece.new.piece.items c.print_piece.result c.print_piece.ensures.empty
    (c.print_piece.ensures.on text rest old more)
