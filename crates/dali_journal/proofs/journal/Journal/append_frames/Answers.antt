use Rattle.std.proofs.Common.{◌∙◌, ◌+◌, true, false, length, refl, sym, ap, subst}
use Rattle.dali_journal.specs.Appends.{AtRest, Appends, StaysOutside}
use Rattle.dali_journal.proofs.AppendLemmas.{appends_none}
use Rattle.dali_journal.proofs.OutsideLemmas.{same_outside}
use Rattle.dali_journal.proofs.journal.Journal.append_frames.Goals as goal

pub returns-then-self-len-clause-stops : goal.returns-then-self-len-clause-stops
returns-then-self-len-clause-stops g c = λ tells edition list more are short rest.
    let all = c.size-size.ensures.told tells in
    appends_none _ edition list more _ _ rest (all.loose ∙ sym all.bytes)

pub returns-in-Ok-clause-stops : goal.returns-in-Ok-clause-stops
returns-in-Ok-clause-stops g c = λ tells edition list more are short rest.
    let old = g.T.Site.sight c.args.site.now in
    let tail_is = ap (λ r. r.tail) c.self.view_is in
    subst (λ t. Appends true t edition list more c.args.frames.now old (g.T.Site.sight c.write_behind.new.site)) tail_is
    (c.in-Ok.ensures.stops tells edition list more are short (subst (λ t. AtRest t edition list old) (sym tail_is) rest))

pub returns-in-Err-clause-stops : goal.returns-in-Err-clause-stops
returns-in-Err-clause-stops g c = λ tells edition list more are short rest.
    let old = g.T.Site.sight c.args.site.now in
    let tail_is = ap (λ r. r.tail) c.self.view_is in
    subst (λ t. Appends false t edition list more c.args.frames.now old (g.T.Site.sight c.write_behind.new.site)) tail_is
    (c.in-Err.ensures.stops tells edition list more are short (subst (λ t. AtRest t edition list old) (sym tail_is) rest))

pub returns-then-self-len-clause-outside : goal.returns-then-self-len-clause-outside
returns-then-self-len-clause-outside g c = λ tells. same_outside _ _ _ _ refl

pub returns-in-Ok-clause-outside : goal.returns-in-Ok-clause-outside
returns-in-Ok-clause-outside g c = λ tells.
    subst (λ t. StaysOutside t (length c.args.frames.now + 1) (g.T.Site.sight c.args.site.now) (g.T.Site.sight c.write_behind.new.site)) (ap (λ r. r.tail) c.self.view_is)
    (c.write_behind.ensures.outside tells)

pub returns-in-Err-clause-outside : goal.returns-in-Err-clause-outside
returns-in-Err-clause-outside g c = λ tells.
    subst (λ t. StaysOutside t (length c.args.frames.now + 1) (g.T.Site.sight c.args.site.now) (g.T.Site.sight c.write_behind.new.site)) (ap (λ r. r.tail) c.self.view_is)
    (c.write_behind.ensures.outside tells)
