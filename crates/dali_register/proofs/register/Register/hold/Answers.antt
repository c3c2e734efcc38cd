use Rattle.std.proofs.Common.{◌≡◌, ◌∙◌, ◌++◌, ◌∷◌, [], List, ℕ, refl, sym, ap}
use Rattle.dali_register.proofs.Holding.{held_more, at_site_more}
use Rattle.dali_register.proofs.register.Register.hold.Goals as goal

pub returns-clause-held : goal.returns-clause-held
returns-clause-held c told before found added held e sight stands is may =
    held_more told before found added held e c.args.self.now
    (record { state = c.commit-outcome.new.self; journal = c.args.self.now.journal; group = c.add-2.new.self; replies = c.add.new.self; alloc = c.args.self.now.alloc }) sight c.args.made stands is may
    c.requires.room c.requires.fits (c.commit-outcome.ensures.step e.edition e.line e.choice is.ready_is) refl
    (c.add-2.ensures ∙ ap (λ x. c.args.self.now.group ++ x ∷ []) c.bytes-2.ensures) (c.in_ok-add.ensures.ok ∙ ap (λ x. c.args.self.now.replies ++ x) c.bytes.ensures)

pub returns-clause-at_site : goal.returns-clause-at_site
returns-clause-at_site c sight at =
    at_site_more c.args.self.now
    (record { state = c.commit-outcome.new.self; journal = c.args.self.now.journal; group = c.add-2.new.self; replies = c.add.new.self; alloc = c.args.self.now.alloc }) c.args.made.record sight at
    c.requires.fits refl (c.add-2.ensures ∙ ap (λ x. c.args.self.now.group ++ x ∷ []) c.bytes-2.ensures)
