use Rattle.std.proofs.Common.{◌≡◌, ◌∙◌, List, ℕ, Some, length, cond, ap, subst, rules}
use Rattle.std.specs.Map.{lookup}
use Rattle.std.specs.Result.{OnOk, IfOk}
use Rattle.indexmap.specs.IndexMap.{Updates}
use Rattle.dali_base.specs.Readers.{same_bytes}
use Rattle.dali_ledger.specs.declared.places.Places.{Places}
use Rattle.dali_ledger.proofs.PlaceLemmas.{places_more}
use Rattle.dali_ledger.proofs.places.Places.add.Goals as goal

pub returns-clause-of : goal.returns-clause-of
returns-clause-of c accounts kept =
    let p : Places = c.args.self.now in
    let q : Places = record { befores = c.push_reserved.new.self; lasts = c.insert.new.self } in
    let before : c.unwrap-before.result ≡ lookup (same_bytes c.args.account) p.lasts.entries =
    subst (λ r. IfOk r (λ old. old ≡ lookup (same_bytes c.args.account) p.lasts.entries)) c.unwrap-before.ensures c.insert.ensures.old in
    let updates : Updates same_bytes p.lasts q.lasts c.args.account (Some c.len-place.result) =
    subst (λ r. OnOk r (Updates same_bytes p.lasts q.lasts c.args.account (Some c.len-place.result))) c.unwrap-before.ensures c.insert.ensures.updates in
    let count : c.len-place.result ≡ length p.befores.items = search rules in
    places_more p q accounts c.args.account c.unwrap-before.result kept before c.push_reserved.ensures.items
    (λ (other : List ℕ). updates.0 other ∙ ap (λ n. cond (same_bytes c.args.account other) (Some n) (lookup (same_bytes other) p.lasts.entries)) count)
