use Rattle.std.proofs.Common.{◌≡◌, ℕ, ◌<◌, ◌∙◌, Some, [], ◌∷◌, ◌++◌, List, Bool, length, ap, sym, subst, arith}
use Rattle.std.proofs.lemmas.List.Elements.{Contains-push}
use Rattle.dali_parts.specs.Flood.{IsFlooding, Enters}
use Rattle.dali_parts.proofs.Flooding.{start_step, start_class, enters_grows, take_last, waits_within, grows_both, grows_some, any_class}
use Rattle.dali_parts.proofs.flood.Flood.run.Goals as goal

pub loop-place-init : goal.loop-place-init
loop-place-init c =
    let p = c.args.problem.now in
    let within : c.args.start < length c.args.self.now.classes.items = omega (arith, c.requires.start, c.requires.flooding.size) in
    let entered : Enters c.args.class c.args.start c.args.self.now.classes.items c.enter.new.self.classes.items [] c.enter.new.self.pending.items =
    subst (λ (ws : List ℕ). Enters c.args.class c.args.start c.args.self.now.classes.items c.enter.new.self.classes.items ws c.enter.new.self.pending.items)
    c.requires.idle c.in_ok-enter.ensures.entered in
    record {
      flooding = subst (λ (s : List Bool). IsFlooding p c.args.class c.enter.new.self.classes.items s c.enter.new.self.pending.items) (sym c.enter.ensures.seen)
          (start_step p c.args.class c.args.start c.args.self.now.classes.items c.enter.new.self.classes.items c.args.self.now.seen.items c.enter.new.self.pending.items
          c.requires.start c.requires.free c.requires.fresh c.requires.flooding entered);
      grows = enters_grows c.args.class c.args.start c.args.self.now.classes.items c.enter.new.self.classes.items [] c.enter.new.self.pending.items within entered;
      start = start_class c.args.class c.args.start c.args.self.now.classes.items c.enter.new.self.classes.items [] c.enter.new.self.pending.items within c.requires.free entered;
    }

pub visit-requires-clause-place : goal.visit-requires-clause-place
visit-requires-clause-place c =
    waits_within c.args.problem.now c.args.class c.loop-place.self.classes.items c.loop-place.self.seen.items (c.pop.new.self.items ++ c.in-Some.place ∷ []) c.in-Some.place
    (subst (λ (ws : List ℕ). IsFlooding c.args.problem.now c.args.class c.loop-place.self.classes.items c.loop-place.self.seen.items ws) c.in-Some.ensures.items c.loop-place.invariant.flooding)
    (Contains-push c.pop.new.self.items c.in-Some.place)

pub visit-requires-clause-flooding : goal.visit-requires-clause-flooding
visit-requires-clause-flooding c =
    take_last c.args.problem.now c.args.class c.loop-place.self.classes.items c.loop-place.self.seen.items c.in-Some.place c.pop.new.self.items
    (subst (λ (ws : List ℕ). IsFlooding c.args.problem.now c.args.class c.loop-place.self.classes.items c.loop-place.self.seen.items ws) c.in-Some.ensures.items c.loop-place.invariant.flooding)

pub loop-place-preserved : goal.loop-place-preserved
loop-place-preserved c = record {
  flooding = c.in_ok-visit.ensures.flooding;
  grows = grows_both c.args.class c.args.self.now.classes.items c.loop-place.self.classes.items c.visit.new.self.classes.items c.loop-place.invariant.grows c.in_ok-visit.ensures.grows;
  start = grows_some c.args.class c.loop-place.self.classes.items c.visit.new.self.classes.items c.args.start c.args.class c.in_ok-visit.ensures.grows c.loop-place.invariant.start;
}
