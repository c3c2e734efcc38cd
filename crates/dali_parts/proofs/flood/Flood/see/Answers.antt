use Rattle.std.proofs.Common.{◌≡◌, ◌∙◌, true, false, sym, ap, subst, List, Bool, set}
use Rattle.std.proofs.lemmas.List.{get_or_read}
use Rattle.dali_parts.specs.Flood.{was_seen, Sees, Spreads}
use Rattle.dali_parts.proofs.Flooding.{sees_none, seen_again, sees_spread, grows_none}
use Rattle.dali_parts.proofs.flood.Flood.see.Goals as goal

pub returns-then-index-clause-sees : goal.returns-then-index-clause-sees
returns-then-index-clause-sees c =
    let told : was_seen c.args.self.now.seen.items c.args.line ≡ true =
    sym (get_or_read c.args.self.now.seen.items c.args.line c.index.result.now c.requires.line c.index.ensures false) ∙ c.if-index.true in
    subst (λ (s : List Bool). Sees c.args.class c.args.self.now.classes.items c.args.self.now.classes.items c.args.self.now.seen.items s
    c.args.self.now.pending.items c.args.self.now.pending.items c.args.line c.args.touches.now) (seen_again c.args.self.now.seen.items c.args.line told)
    (sees_none c.args.class c.args.self.now.classes.items c.args.self.now.seen.items c.args.self.now.pending.items c.args.line c.args.touches.now told)

pub returns-then-index-clause-seen : goal.returns-then-index-clause-seen
returns-then-index-clause-seen c =
    let told : was_seen c.args.self.now.seen.items c.args.line ≡ true =
    sym (get_or_read c.args.self.now.seen.items c.args.line c.index.result.now c.requires.line c.index.ensures false) ∙ c.if-index.true in
    sym (seen_again c.args.self.now.seen.items c.args.line told)

pub returns-then-index-clause-grows : goal.returns-then-index-clause-grows
returns-then-index-clause-grows c = grows_none c.args.class c.args.self.now.classes.items

pub returns-clause-sees : goal.returns-clause-sees
returns-clause-sees c =
    let told : was_seen c.args.self.now.seen.items c.args.line ≡ false =
    sym (get_or_read c.args.self.now.seen.items c.args.line c.index.result.now c.requires.line c.index.ensures false) ∙ c.if-index.false in
    subst (λ (s : List Bool). Sees c.args.class c.args.self.now.classes.items c.spread.new.self.classes.items c.args.self.now.seen.items (set s c.args.line true)
    c.args.self.now.pending.items c.spread.new.self.pending.items c.args.line c.args.touches.now) (sym c.spread.ensures.seen)
    (sees_spread c.args.class c.args.self.now.classes.items c.spread.new.self.classes.items c.args.self.now.seen.items c.args.self.now.pending.items
    c.spread.new.self.pending.items c.args.line c.args.touches.now told c.in_ok-spread.ensures.spreads c.in_ok-spread.ensures.each)
