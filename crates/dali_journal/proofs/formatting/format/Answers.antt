use Rattle.std.proofs.Common.{◌≡◌, [], sym, subst}
use Rattle.dali_outside.specs.Outside.{Sight, overlay}
use Rattle.dali_journal.specs.Appends.{IsFirm, AtRest}
use Rattle.dali_journal.proofs.RestLemmas.{each_holds}
use Rattle.dali_journal.specs.Holds.{HoldsAt, empty_start}
use Rattle.dali_journal.proofs.HeaderLemmas.{empty_at}
use Rattle.dali_journal.proofs.formatting.format.Goals as goal

empty : (old new : Sight) → new.bytes ≡ overlay old.bytes 0 empty_start → IsFirm new → AtRest 16 1 [] new
empty old new bytes firm = record { holds = subst (HoldsAt 16 1 []) (sym bytes) (empty_at old.bytes); firm = firm }

pub returns-clause-empty : goal.returns-clause-empty
returns-clause-empty g c = λ tells.
    empty (g.T.Site.sight c.args.site.now) (g.T.Site.sight c.write_firm.new.site) (c.in_ok-write_firm.ensures.bytes tells) (c.in_ok-write_firm.ensures.firm tells)

pub returns-clause-images : goal.returns-clause-images
returns-clause-images g c = λ tells.
    each_holds 16 1 [] (g.T.Site.sight c.write_firm.new.site) (c.in_ok-write_firm.ensures.told tells)
    (empty (g.T.Site.sight c.args.site.now) (g.T.Site.sight c.write_firm.new.site) (c.in_ok-write_firm.ensures.bytes tells) (c.in_ok-write_firm.ensures.firm tells))
