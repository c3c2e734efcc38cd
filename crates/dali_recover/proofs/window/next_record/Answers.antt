use Rattle.std.proofs.Common.{sym, subst}
use Rattle.dali_journal.specs.Holds.{StandsTo}
use Rattle.dali_journal.specs.JournalAt.{Reached}
use Rattle.dali_recover.proofs.window.next_record.Goals as goal

pub returns-in-Err-DiskFault-clause-more : goal.returns-in-Err-DiskFault-clause-more
returns-in-Err-DiskFault-clause-more g c told edition list stands =
    c.next_record.ensures.more told edition list (subst (λ (j : Reached). StandsTo j.tail edition list (g.T.Site.sight c.args.site.now).bytes) (sym c.in-Err-DiskFault.ensures.unmoved) stands)
