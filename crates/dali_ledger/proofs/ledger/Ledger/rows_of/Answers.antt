use Rattle.std.proofs.Common.{◌≡◌, ◌<◌, ◌+◌, ◌∙◌, List, ℕ, Option, length, drop, reverse, refl, sym, ap, subst, arith}
use Rattle.std.specs.Option.{option_map_or}
use Rattle.std.proofs.lemmas.List.{take-append-le, take_all}
use Rattle.std.proofs.lemmas.Option.{slice_get_within, slice_get_read}
use Rattle.dali_ledger.specs.declared.posting.Posting.{Posting}
use Rattle.dali_ledger.specs.Ledger.{LedgerState}
use Rattle.dali_ledger.specs.LedgerKept.{accounts_of}
use Rattle.dali_ledger.proofs.PlaceLemmas.{Walk, own_rows, walk_start, walk_within, walk_account, walk_more, walk_end, place_falls}
use Rattle.dali_ledger.proofs.ledger.Ledger.rows_of.Goals as goal

pub loop-next-init : goal.loop-next-init
loop-next-init c =
    subst (Walk c.args.account c.self.inside.postings.items c.last-next.result) (sym c.new-rows.ensures.items)
    (walk_start c.args.account c.self.inside.postings.items c.last-next.result (c.last-next.ensures (accounts_of c.self.inside.postings.items) c.self.invariant.places))

pub index-requires : goal.index-requires
index-requires c =
    let walk = subst (λ o. Walk c.args.account c.self.inside.postings.items o c.loop-next.rows.items) c.in-Some.is c.loop-next.invariant in
    omega (arith, walk_within c.args.account c.self.inside.postings.items c.in-Some.place c.loop-next.rows.items walk, c.self.inside.postings.ok.0)

pub before-next-requires : goal.before-next-requires
before-next-requires c =
    let walk = subst (λ o. Walk c.args.account c.self.inside.postings.items o c.loop-next.rows.items) c.in-Some.is c.loop-next.invariant in
    let at = walk_account c.args.account c.self.inside.postings.items c.in-Some.place c.loop-next.rows.items walk in
    let within = slice_get_within (accounts_of c.self.inside.postings.items) c.in-Some.place c.args.account at in
    omega (arith, within, c.self.invariant.places.len)

pub loop-next-smaller : goal.loop-next-smaller
loop-next-smaller c =
    let walk = subst (λ o. Walk c.args.account c.self.inside.postings.items o c.loop-next.rows.items) c.in-Some.is c.loop-next.invariant in
    let at = walk_account c.args.account c.self.inside.postings.items c.in-Some.place c.loop-next.rows.items walk in
    let is = c.before-next.ensures (accounts_of c.self.inside.postings.items) c.args.account c.self.invariant.places at in
    subst (λ (o : Option ℕ). option_map_or (λ n. n + 1) c.before-next.result 0 < option_map_or (λ n. n + 1) o 0) (sym c.in-Some.is)
    (place_falls c.before-next.result c.in-Some.place (accounts_of c.self.inside.postings.items) c.args.account is)

pub loop-next-preserved : goal.loop-next-preserved
loop-next-preserved c =
    let walk = subst (λ o. Walk c.args.account c.self.inside.postings.items o c.loop-next.rows.items) c.in-Some.is c.loop-next.invariant in
    let at = walk_account c.args.account c.self.inside.postings.items c.in-Some.place c.loop-next.rows.items walk in
    let is = c.before-next.ensures (accounts_of c.self.inside.postings.items) c.args.account c.self.invariant.places at in
    let within = walk_within c.args.account c.self.inside.postings.items c.in-Some.place c.loop-next.rows.items walk in
    let there = slice_get_read c.self.inside.postings.items (length c.self.inside.postings.items) c.in-Some.place c.index.result.now refl within c.index.ensures in
    subst (Walk c.args.account c.self.inside.postings.items c.before-next.result) (sym c.in_ok-push.ensures.items)
    (walk_more c.args.account c.self.inside.postings.items c.in-Some.place c.loop-next.rows.items walk c.index.result.now c.before-next.result there is)

pub returns : goal.returns
returns c =
    let walk = subst (λ o. Walk c.args.account c.self.inside.postings.items o c.loop-next.rows.items) c.in_default.is c.loop-next.invariant in
    let ys = c.reverse.new.self in
    let n = c.loop-next.rows.len in
    let len : length ys ≡ n = omega (arith, c.reverse.ensures.len, c.as_mut_slice.ensures.len) in
    c.from_vec.ensures ∙ take-append-le n ys (drop (length ys) c.loop-next.rows.items) (omega (arith, len)) ∙ take_all n ys (omega (arith, len))
    ∙ c.reverse.ensures.after ∙ ap (λ (rs : List Posting). reverse rs) c.as_mut_slice.ensures.value
    ∙ walk_end c.args.account c.self.inside.postings.items c.loop-next.rows.items walk
    ∙ ap (λ (s : LedgerState). own_rows c.args.account s.postings) c.self.view_is
