use Rattle.std.proofs.Common.{inl, refl, subst}
use Rattle.dali_replica.specs.Judging.{IsNextBy, IsBad}
use Rattle.dali_follow.specs.SoFar.{Adds, AddsNot, TakesFrame, TakesNot}
use Rattle.dali_follow.proofs.Added.{frame_not, ok_more, err_more}
use Rattle.dali_follow.proofs.taking.take_frame.Goals as goal

pub returns-in-Next-clause-taken : goal.returns-in-Next-clause-taken
returns-in-Next-clause-taken g c =
    let told = g.T.Site.tells in
    let before = g.T.Site.sight c.args.site.now in
    let after = g.T.Site.sight c.add.new.site in
    let next : IsNextBy c.args.found.now.journal.edition c.args.found.now.entries c.args.frame.now c.in-Next.entry =
    subst (λ n. IsNextBy n c.args.found.now.entries c.args.frame.now c.in-Next.entry) c.edition-edition.ensures.value ((c.in_ok-entry.ensures.next c.in-Next.entry).0 c.in-Next.is) in
    ok_more c.add.result (Adds told c.in-Next.entry c.args.found.now c.add.new.found before after) (TakesFrame told c.args.frame.now c.args.found.now c.add.new.found before after)
    (λ adds. inl (record { e = c.in-Next.entry; next = next; adds = adds })) c.add.ensures.added

pub returns-in-Next-clause-ended : goal.returns-in-Next-clause-ended
returns-in-Next-clause-ended g c =
    let told = g.T.Site.tells in
    let before = g.T.Site.sight c.args.site.now in
    let after = g.T.Site.sight c.add.new.site in
    let next : IsNextBy c.args.found.now.journal.edition c.args.found.now.entries c.args.frame.now c.in-Next.entry =
    subst (λ n. IsNextBy n c.args.found.now.entries c.args.frame.now c.in-Next.entry) c.edition-edition.ensures.value ((c.in_ok-entry.ensures.next c.in-Next.entry).0 c.in-Next.is) in
    err_more c.add.result (AddsNot told c.in-Next.entry c.args.found.now before after) (TakesNot told c.args.frame.now c.args.found.now before after)
    (λ end why. frame_not told c.args.frame.now c.in-Next.entry c.args.found.now before after end next why) c.add.ensures.ended

pub returns-in-Bad-clause-ended : goal.returns-in-Bad-clause-ended
returns-in-Bad-clause-ended g c =
    (refl, subst (λ n. IsBad n c.args.found.now.entries c.args.frame.now) c.edition-edition.ensures.value (c.in_ok-entry.ensures.bad.0 c.in-Bad.is), refl)
