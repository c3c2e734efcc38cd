use Rattle.dali_greedy.specs.Grown.{IsGrown, IsOverdrawn}
use Rattle.dali_problem.specs.Feasible.{value_of}
use Rattle.dali_search.proofs.Offers.{grown_offers, none_overdrawn, offered_more}
use Rattle.dali_search.proofs.offer.offer.Goals as goal

pub returns-in-Some-clause-offered : goal.returns-in-Some-clause-offered
returns-in-Some-clause-offered c =
    let p = c.args.problem.now in
    let f = c.args.partial.now.marks in
    let grown : IsGrown p f c.in-Some.set = rw c.in-Some.is at c.in_ok-set.ensures.grown in
    record {
      offered = (λ closed long. offered_more p f (value_of p c.in-Some.set) c.keep.new.best.value c.in_ok-keep-in-Some.ensures.kept
          (grown_offers p f c.in-Some.set closed grown.places grown.agrees));
    }

pub returns-clause-offered : goal.returns-clause-offered
returns-clause-offered c =
    let p = c.args.problem.now in
    let f = c.args.partial.now.marks in
    let over : IsOverdrawn p f = rw c.in-None.is at c.in_ok-set.ensures.none in
    record { offered = (λ closed long. absurd (none_overdrawn p f closed long over)) }
