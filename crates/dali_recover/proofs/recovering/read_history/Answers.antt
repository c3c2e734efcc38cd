use Rattle.std.proofs.Common.{◌≡◌, ℕ, List, ap, subst, Err}
use Rattle.std.proofs.lemmas.Result.{err_from_is_err_and}
use Rattle.dali_recover.specs.Pieces.{StandFrom}
use Rattle.dali_recover.specs.declared.refusal.RecoverNo.{RecoverNo}
use Rattle.dali_recover.specs.declared.refusal.RecoverNo.TheVariants as errors
use Rattle.dali_recover.proofs.Going.{so_far_start, so_far_on, so_far_next, damaged_since, quiet_on}
use Rattle.dali_recover.proofs.recovering.read_history.Goals as goal

pub loop-window-init : goal.loop-window-init
loop-window-init g c = (
  so_far_start g.T.Site.tells (g.T.Site.sight c.args.site.now) (record { state = c.new.result; entries = c.new-2.result; journal = c.args.journal })
      c.new.ensures c.new-2.ensures c.requires.first c.requires.at_site c.requires.opened,
  (λ told. c.new-window.ensures (g.T.Site.sight c.args.site.now).bytes),
)

pub returns-in_err-reach-clause-quiet : goal.returns-in_err-reach-clause-quiet
returns-in_err-reach-clause-quiet g c =
    quiet_on g.T.Site.tells (g.T.Site.sight c.args.site.now) (g.T.Site.sight c.loop-window.site) (g.T.Site.sight c.reach.new.site) c.loop-window.invariant.0.quiet c.reach.ensures.quiet

pub returns-in_err-take_next-clause-damaged : goal.returns-in_err-take_next-clause-damaged
returns-in_err-take_next-clause-damaged g c told place why is =
    let so_far = so_far_on g.T.Site.tells (g.T.Site.sight c.args.site.now) (g.T.Site.sight c.loop-window.site) c.loop-window.found c.loop-window.invariant.0 (g.T.Site.sight c.reach.new.site) c.reach.ensures.quiet in
    let q = err_from_is_err_and c.from_residual-in_err-take_next.result c.from_residual-in_err-take_next.ensures.1 in
    let same : c.in_err-take_next.field-0.0 ≡ errors.Damaged place why = cc (q.1, q.2, is) in
    damaged_since g.T.Site.tells (g.T.Site.sight c.args.site.now) (g.T.Site.sight c.reach.new.site) c.loop-window.found so_far place why told
    (c.in_err-take_next.ensures.damaged told place why (ap (λ (e : RecoverNo). Err e) same))

pub loop-window-preserved : goal.loop-window-preserved
loop-window-preserved g c =
    let so_far = so_far_on g.T.Site.tells (g.T.Site.sight c.args.site.now) (g.T.Site.sight c.loop-window.site) c.loop-window.found c.loop-window.invariant.0 (g.T.Site.sight c.reach.new.site) c.reach.ensures.quiet in (
      so_far_next g.T.Site.tells (g.T.Site.sight c.args.site.now) (g.T.Site.sight c.reach.new.site) c.loop-window.found so_far (g.T.Site.sight c.take_next.new.site) c.take_next.new.found
          (c.in_ok-take_next.ensures.read c.if-not-branch.false) (λ told. c.in_ok-take_next.ensures.reads told c.if-not-branch.false) c.take_next.ensures.quiet,
      (λ told. subst (λ (bs : List ℕ). StandFrom c.reach.new.self.from c.reach.new.self.bytes.items bs) (c.loop-window.invariant.0.quiet.disk told).bytes (c.in_ok-reach.ensures.stand told)),
    )
