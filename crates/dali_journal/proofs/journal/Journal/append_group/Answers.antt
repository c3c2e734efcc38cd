use Rattle.std.specs.Prelude.{◌↔◌, IsErrOf}
use Rattle.std.proofs.Common.{◌≡◌, ◌+◌, ◌<◌, subst}
use Rattle.dali_journal.specs.declared.refusal.AppendNo.TheVariants.{JournalFull}
use Rattle.dali_journal.specs.Appends.{StaysOutside}
use Rattle.dali_journal.proofs.journal.Journal.append_group.Goals as goal

pub returns-clause-stops : goal.returns-clause-stops
returns-clause-stops g c = λ tells edition list rest.
    (c.frames.result.now, c.frames.ensures.frames, c.frames.ensures.length, c.append_frames.ensures.stops tells edition list c.args.group.now c.frames.ensures.frames c.frames.ensures.short rest)

pub returns-clause-full : goal.returns-clause-full
returns-clause-full g c = λ need left.
    subst (λ k. IsErrOf c.append_frames.result (JournalFull need left) ↔ ((c.args.self.now.left < k + 1) × (need ≡ k + 1) × (left ≡ c.args.self.now.left))) c.frames.ensures.length
    (c.append_frames.ensures.full need left)

pub returns-clause-outside : goal.returns-clause-outside
returns-clause-outside g c = λ tells.
    subst (λ k. StaysOutside c.args.self.now.tail (k + 1) (g.T.Site.sight c.args.site.now) (g.T.Site.sight c.append_frames.new.site)) c.frames.ensures.length
    (c.append_frames.ensures.outside tells)
