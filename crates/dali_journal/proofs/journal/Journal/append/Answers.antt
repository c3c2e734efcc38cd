use Rattle.std.specs.Prelude.{◌↔◌, IsErrOf}
use Rattle.std.proofs.Common.{◌≡◌, ◌+◌, ◌<◌, [], ◌∷◌, length, is_ok, sym, subst}
use Rattle.dali_journal.specs.Frames.{payload_of, AreFrames}
use Rattle.dali_journal.specs.Appends.{Appends}
use Rattle.dali_journal.specs.declared.refusal.AppendNo.TheVariants.{JournalFull}
use Rattle.dali_journal.proofs.journal.Journal.append.Goals as goal

pub returns-clause-stops : goal.returns-clause-stops
returns-clause-stops g c = λ tells edition list rest.
    let payload = payload_of c.args.frame.now in
    subst (λ bs. Appends (is_ok c.append_frames.result) c.args.self.now.tail edition list (payload ∷ []) bs (g.T.Site.sight c.args.site.now) (g.T.Site.sight c.append_frames.new.site)) c.bytes.ensures.value
    (c.append_frames.ensures.stops tells edition list (payload ∷ []) (subst (AreFrames (payload ∷ [])) (sym c.bytes.ensures.value) c.bytes.ensures.frame) c.bytes.ensures.short rest)

pub returns-clause-full : goal.returns-clause-full
returns-clause-full g c = λ need left.
    subst (λ bs. IsErrOf c.append_frames.result (JournalFull need left) ↔ ((c.args.self.now.left < length bs + 1) × (need ≡ length bs + 1) × (left ≡ c.args.self.now.left))) c.bytes.ensures.value
    (c.append_frames.ensures.full need left)
