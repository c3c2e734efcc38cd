use Rattle.std.proofs.Common.{◌≡◌, [], ◌∷◌, ◌++◌, sym, subst}
use Rattle.std.specs.Result.{OnOk}
use Rattle.dali_line.specs.declared.command.Verb.TheVariants as verbs
use Rattle.dali_machine.specs.StateKept.{machine_of, record_of}
use Rattle.dali_machine.specs.Ready.{MayTake}
use Rattle.dali_account.specs.Refusals.{asset_refusal}
use Rattle.dali_machine.proofs.Allowed.{answered_ok, inst_allowed}
use Rattle.dali_machine.proofs.Machines.{machine_asset}
use Rattle.dali_machine.proofs.state.State.add_asset.Goals as goal

pub unwrap-requires : goal.unwrap-requires
unwrap-requires c =
    let take : MayTake (record_of c.self.inside) (verbs.Inst c.args.code c.args.price) = subst (λ s. MayTake s (verbs.Inst c.args.code c.args.price)) (sym c.self.view_is) c.requires in
    answered_ok c.add_asset.result (asset_refusal c.self.inside.book.book c.args.code)
    (inst_allowed (machine_of c.self.inside) take.moment c.args.code c.args.price take.allowed) c.add_asset.ensures.refusal (c.add_asset.ensures.readied take.place)

pub invariant_of-self : goal.invariant_of-self
invariant_of-self c =
    let take : MayTake (record_of c.self.inside) (verbs.Inst c.args.code c.args.price) = subst (λ s. MayTake s (verbs.Inst c.args.code c.args.price)) (sym c.self.view_is) c.requires in
    machine_asset (machine_of c.self.inside) c.self.invariant c.args.code c.args.price c.add_asset.new.self.book
    (subst (λ r. OnOk r (c.add_asset.new.self.book ≡ record c.self.inside.book.book { codes = c.self.inside.book.book.codes ++ (c.args.code, c.args.price) ∷ [] })) c.unwrap.ensures c.add_asset.ensures.ok)
    take.fields.1.least c.add_asset.ensures.totals
