use Rattle.std.specs.Prelude.{ℕ, ◌-◌}
use Rattle.dali_base.specs.Spelling.{DAY}
use Rattle.dali_base.specs.declared.kind.Kind.{Kind}
use Rattle.dali_base.specs.declared.kind.Kind.TheVariants.{Dvp, Fop, Pay}
use Rattle.dali_queue.specs.declared.cutoffs.Cutoffs.{Cutoffs}

-- the last moment of a day, 235959, at which each cut-off starts
abbrev pub LAST : ℕ
LAST = DAY - 1

-- the cut-off of a kind
abbrev pub cutoff_of : Cutoffs → Kind → ℕ
cutoff_of c Dvp = c.dvp
cutoff_of c Fop = c.fop
cutoff_of c Pay = c.pay

-- the cut-offs with another one for a kind
abbrev pub with_cutoff : Cutoffs → Kind → ℕ → Cutoffs
with_cutoff c Dvp moment = record c { dvp = moment }
with_cutoff c Fop moment = record c { fop = moment }
with_cutoff c Pay moment = record c { pay = moment }
