use Rattle.std.proofs.Common.{◌≡◌, ◌∙◌, ◌+◌, [], ◌∷◌, ap, subst}
use Rattle.dali_outside.specs.Outside.{overlay}
use Rattle.dali_outside.specs.Stops.{LeavesOnly}
use Rattle.dali_journal.specs.Appends.{Torn}
use Rattle.dali_journal.proofs.HeaderLemmas.{raise_stops, raised}
use Rattle.dali_journal.proofs.RestLemmas.{each_holds}
use Rattle.dali_journal.proofs.journal.Journal.raise_edition.Goals as goal

pub returns-in_err-write_firm-clause-stops : goal.returns-in_err-write_firm-clause-stops
returns-in_err-write_firm-clause-stops g c = λ tells tail list rest.
    let old = g.T.Site.sight c.args.site.now in
    let new = g.T.Site.sight c.write_firm.new.site in
    raise_stops tail c.args.self.now.edition list old new rest c.requires.below
    (subst (λ e. LeavesOnly (Torn old (11 + e) 1) old new) (c.from.ensures ∙ ap (λ r. r.edition) c.self.view_is) (c.write_firm.ensures.torn tells rest.firm))

pub returns-clause-stops : goal.returns-clause-stops
returns-clause-stops g c = λ tells tail list rest.
    let old = g.T.Site.sight c.args.site.now in
    let new = g.T.Site.sight c.write_firm.new.site in
    raise_stops tail c.args.self.now.edition list old new rest c.requires.below
    (subst (λ e. LeavesOnly (Torn old (11 + e) 1) old new) (c.from.ensures ∙ ap (λ r. r.edition) c.self.view_is) (c.write_firm.ensures.torn tells rest.firm))

pub returns-clause-raised : goal.returns-clause-raised
returns-clause-raised g c = λ tells tail list rest.
    let old = g.T.Site.sight c.args.site.now in
    let new = g.T.Site.sight c.write_firm.new.site in
    raised tail c.args.self.now.edition list old new rest c.requires.below (c.in_ok-write_firm.ensures.firm tells)
    (subst (λ e. new.bytes ≡ overlay old.bytes (11 + e) (1 ∷ [])) (c.from.ensures ∙ ap (λ r. r.edition) c.self.view_is) (c.in_ok-write_firm.ensures.bytes tells))

pub returns-clause-images : goal.returns-clause-images
returns-clause-images g c = λ tells tail list rest.
    let old = g.T.Site.sight c.args.site.now in
    let new = g.T.Site.sight c.write_firm.new.site in
    each_holds tail (c.args.self.now.edition + 1) list new (c.in_ok-write_firm.ensures.told tells)
    (raised tail c.args.self.now.edition list old new rest c.requires.below (c.in_ok-write_firm.ensures.firm tells)
    (subst (λ e. new.bytes ≡ overlay old.bytes (11 + e) (1 ∷ [])) (c.from.ensures ∙ ap (λ r. r.edition) c.self.view_is) (c.in_ok-write_firm.ensures.bytes tells)))
