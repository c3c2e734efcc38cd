use Rattle.std.proofs.Common.{◌≡◌, [], ◌∷◌, ◌++◌, sym, subst}
use Rattle.std.specs.Result.{OnOk}
use Rattle.dali_line.specs.declared.command.Verb.TheVariants as verbs
use Rattle.dali_machine.specs.StateKept.{machine_of, record_of}
use Rattle.dali_machine.specs.Ready.{MayTake}
use Rattle.dali_account.specs.Refusals.{account_refusal}
use Rattle.dali_machine.proofs.Allowed.{answered_ok, part_allowed, part_new}
use Rattle.dali_machine.proofs.Machines.{machine_account}
use Rattle.dali_machine.proofs.state.State.add_account.Goals as goal

pub unwrap-requires : goal.unwrap-requires
unwrap-requires c =
    let take : MayTake (record_of c.self.inside) (verbs.Part c.args.account) = subst (λ s. MayTake s (verbs.Part c.args.account)) (sym c.self.view_is) c.requires in
    answered_ok c.add_account.result (account_refusal c.self.inside.book.book c.args.account)
    (part_allowed (machine_of c.self.inside) take.moment c.args.account take.allowed) c.add_account.ensures.refusal (c.add_account.ensures.readied take.place)

pub invariant_of-self : goal.invariant_of-self
invariant_of-self c =
    let take : MayTake (record_of c.self.inside) (verbs.Part c.args.account) = subst (λ s. MayTake s (verbs.Part c.args.account)) (sym c.self.view_is) c.requires in
    machine_account (machine_of c.self.inside) c.self.invariant c.args.account c.add_account.new.self.book
    (subst (λ r. OnOk r (c.add_account.new.self.book ≡ record c.self.inside.book.book { accounts = c.self.inside.book.book.accounts ++ c.args.account ∷ [] })) c.unwrap.ensures c.add_account.ensures.ok)
    (part_new (machine_of c.self.inside) take.moment c.args.account take.allowed) c.add_account.ensures.totals
