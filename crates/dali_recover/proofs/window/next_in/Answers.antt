use Rattle.std.proofs.Common.{◌++◌, ℕ, List, [], ◌∷◌, sym, ap, subst}
use Rattle.std.specs.Prelude.{IfOk, IfSome}
use Rattle.dali_outside.specs.Outside.{Sight}
use Rattle.dali_journal.specs.Holds.{StandsTo}
use Rattle.dali_recover.proofs.window.next_in.Goals as goal

pub returns-clause-more : goal.returns-clause-more
returns-clause-more g c told edition list stands =
    let same = ap (λ (s : Sight). s.bytes) c.new-piece.ensures in
    subst (λ (bs : List ℕ). IfOk c.next_record.result (λ o. IfSome o (λ payload. StandsTo c.next_record.new.self.tail edition (list ++ payload ∷ []) bs))) same
    (c.next_record.ensures.more told edition list (subst (λ (bs : List ℕ). StandsTo c.args.journal.now.tail edition list bs) (sym same) stands))
