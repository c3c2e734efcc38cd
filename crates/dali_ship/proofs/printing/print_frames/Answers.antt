use Rattle.std.proofs.Common.{◌∙◌, ◌+◌, [], List, ℕ, ◌++◌, drop, sym, ap, subst, arith}
use Rattle.std.proofs.lemmas.Result.{err_from_is_err_and}
use Rattle.dali_ship.specs.Printing.{SoFar}
use Rattle.dali_replica.specs.Shipping.{shipped}
use Rattle.dali_ship.proofs.Framing.{text_from, next_at, all_gone}
use Rattle.dali_ship.proofs.Pieces.{begun, wanted}
use Rattle.dali_ship.proofs.printing.print_frames.Goals as goal

pub returns-in_default : goal.returns-in_default
returns-in_default g c =
    let s = g.T.Site.sight c.args.site.now in
    (wanted g.T.Site.tells (shipped c.args.entries.now) [] (shipped c.args.entries.now) s s (begun g.T.Site.tells (shipped c.args.entries.now) s), tt)

pub loop-at-init : goal.loop-at-init
loop-at-init g c =
    let s = g.T.Site.sight c.args.site.now in
    subst (λ (bytes : List ℕ). SoFar g.T.Site.tells (shipped c.args.entries.now) bytes (shipped c.args.entries.now) s s) (sym c.in-Ok.ensures.items)
    (begun g.T.Site.tells (shipped c.args.entries.now) s)

pub returns-in_default-frame_at : goal.returns-in_default-frame_at
returns-in_default-frame_at g c = (
  wanted g.T.Site.tells (shipped c.args.entries.now) c.loop-at.piece.items (text_from (c.loop-at.at + 1) (drop c.loop-at.at c.args.entries.now))
      (g.T.Site.sight c.args.site.now) (g.T.Site.sight c.loop-at.site) c.loop-at.invariant,
  tt,
)

pub returns-in_err-print_frame : goal.returns-in_err-print_frame
returns-in_err-print_frame g c =
    let q = err_from_is_err_and c.from_residual.result c.from_residual.ensures.1 in
    let old = g.T.Site.sight c.args.site.now in
    let mid = g.T.Site.sight c.loop-at.site in
    let at = c.loop-at.at in
    let entries = c.args.entries.now in
    let next = next_at (at + 1) entries at (omega (arith, c.loop-at-test.true)) in
    let rest = text_from (at + 1 + 1) (drop (at + 1) entries) in
    let frame = c.bytes.ensures ∙ c.in-Ok-frame_at.ensures next.e next.there in
    let far = subst (λ (more : List ℕ). SoFar g.T.Site.tells (shipped entries) c.loop-at.piece.items more old mid) (next.text ∙ ap (λ (bytes : List ℕ). bytes ++ rest) (sym frame)) c.loop-at.invariant in
    rw (q.1, q.2) (c.in_err-print_frame.ensures (shipped entries) rest old far)

pub loop-at-preserved : goal.loop-at-preserved
loop-at-preserved g c =
    let old = g.T.Site.sight c.args.site.now in
    let mid = g.T.Site.sight c.loop-at.site in
    let at = c.loop-at.at in
    let entries = c.args.entries.now in
    let next = next_at (at + 1) entries at (omega (arith, c.loop-at-test.true)) in
    let rest = text_from (at + 1 + 1) (drop (at + 1) entries) in
    let frame = c.bytes.ensures ∙ c.in-Ok-frame_at.ensures next.e next.there in
    let far = subst (λ (more : List ℕ). SoFar g.T.Site.tells (shipped entries) c.loop-at.piece.items more old mid) (next.text ∙ ap (λ (bytes : List ℕ). bytes ++ rest) (sym frame)) c.loop-at.invariant in
    c.in_ok-print_frame.ensures (shipped entries) rest old far

pub returns : goal.returns
returns g c =
    let old = g.T.Site.sight c.args.site.now in
    let mid = g.T.Site.sight c.loop-at.site in
    c.print_piece.ensures.on (shipped c.args.entries.now) [] old
    (all_gone g.T.Site.tells c.loop-at.at c.args.entries.now (shipped c.args.entries.now) c.loop-at.piece.items old mid (omega (arith, c.loop-at-test.false)) c.loop-at.invariant)
