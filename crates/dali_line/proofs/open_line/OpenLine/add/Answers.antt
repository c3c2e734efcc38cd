use Rattle.std.proofs.Common.{◌≡◌, ◌∙◌, ◌≤◌, ◌<◌, false, ◌++◌, length, eqb, sym, ap, subst, arith}
use Rattle.std.specs.Prelude.{◌&&◌}
use Rattle.std.specs.Str.Lines.{strip_carriage_return}
use Rattle.dali_line.specs.Open.{open_of, InOneLine, is_comment, StandsFor}
use Rattle.dali_line.proofs.Ends.{line_added, plain_added, no_comment, not_short}
use Rattle.dali_line.proofs.open_line.OpenLine.add.Goals as goal

pub invariant_of-self-2 : goal.invariant_of-self-2
invariant_of-self-2 c =
    let kept = c.self.inside.kept.items in
    let told_short = subst (λ bytes. length (strip_carriage_return (bytes ++ c.args.part.now)) ≤ 200) c.as_slice-2.ensures.value (c.is_short.ensures.0 c.if-not-is_short.false) in
    let plain : is_comment (kept ++ c.args.part.now) ≡ false =
    plain_added kept c.args.part.now c.self.invariant.plain (no_comment kept c.args.part.now (ap (λ bytes. eqb (length bytes) 0 && is_comment c.args.part.now) (sym c.as_slice.ensures.value) ∙ sym c.starts_comment.ensures ∙ c.if-starts_comment.false)) in
    record {
      short = subst (λ bytes. length (strip_carriage_return bytes) ≤ 200) (sym c.append.ensures.items) (told_short);
      one = subst InOneLine (sym c.append.ensures.items) (line_added kept c.args.part.now c.self.invariant.one c.requires);
      plain = ap is_comment c.append.ensures.items ∙ plain;
      room = omega (arith, c.append.ensures.room, c.self.invariant.room);
    }

pub returns-clause-ok : goal.returns-clause-ok
returns-clause-ok c raw stands =
    let kept = c.self.inside.kept.items in
    let stands-inside : StandsFor raw (open_of c.self.inside) = subst (StandsFor raw) (sym c.self.view_is) stands in
    let told : c.self.inside.skips ≡ false = c.if-self.false in
    let same : kept ≡ raw = stands-inside.kept told in
    let inv = invariant_of-self-2 c in
    let whole : c.append.new.kept.items ≡ raw ++ c.args.part.now = c.append.ensures.items ∙ ap (λ bytes. bytes ++ c.args.part.now) same in
    record {
      one = subst InOneLine whole inv.one;
      skips = told ∙ sym (ap is_comment (sym whole) ∙ inv.plain);
      kept = λ none. whole;
      short = λ none. subst (λ bytes. length (strip_carriage_return bytes) ≤ 200) whole inv.short;
    }

pub returns-then-not-is_short-clause-long : goal.returns-then-not-is_short-clause-long
returns-then-not-is_short-clause-long c raw stands =
    let kept = c.self.inside.kept.items in
    let part = c.args.part.now in
    let stands-inside : StandsFor raw (open_of c.self.inside) = subst (StandsFor raw) (sym c.self.view_is) stands in
    let same : kept ≡ raw = stands-inside.kept c.if-self.false in
    let plain : is_comment (kept ++ part) ≡ false =
    plain_added kept part c.self.invariant.plain (no_comment kept part (ap (λ bytes. eqb (length bytes) 0 && is_comment part) (sym c.as_slice.ensures.value) ∙ sym c.starts_comment.ensures ∙ c.if-starts_comment.false)) in
    record {
      one = line_added raw part stands.one c.requires;
      plain = ap (λ bytes. is_comment (bytes ++ part)) (sym same) ∙ plain;
      long = subst (λ bytes. 200 < length (strip_carriage_return (bytes ++ part))) (c.as_slice-2.ensures.value ∙ same)
          (not_short c.is_short.result _ c.is_short.ensures.1 c.if-not-is_short.true);
    }
