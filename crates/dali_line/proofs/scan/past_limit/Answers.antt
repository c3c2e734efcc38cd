use Rattle.std.proofs.Common.{◌≡◌, ◌∙◌, [], ◌∷◌, ◌++◌, take, get_or, inl, refl, sym, ap, arith, append_assoc}
use Rattle.std.proofs.lemmas.List.{length-append}
use Rattle.dali_line.proofs.Scanning.{long_past, short_past, breaks_off, midway_none_ended, one_byte}
use Rattle.dali_line.proofs.scan.past_limit.Goals as goal

pub returns-then-is_long_with-clause-stops : goal.returns-then-is_long_with-clause-stops
returns-then-is_long_with-clause-stops g c old midway =
    let into = c.take.new.into in
    let left = (g.S.Source.feed c.take.new.self).left in
    let one : take c.in-Ok.field-0 into ≡ get_or into 0 0 ∷ [] = one_byte c.in-Ok.field-0 into (omega (arith, c.in-Ok.ensures.within)) c.in-Ok.field-0-test.1 c.take.auto.into in (
      refl,
      record {
        got = midway.got ++ get_or into 0 0 ∷ [];
        moved = λ tells. midway.gets.moved tells
            ∙ ap (λ rest. midway.got ++ rest) ((c.in-Ok.ensures.taken tells).moved ∙ ap (λ front. front ++ left) one)
            ∙ sym (append_assoc midway.got (get_or into 0 0 ∷ []) left);
        within = omega (arith, midway.gets.taken, midway.gets.within, length-append midway.got (get_or into 0 0 ∷ []));
        long = inl (long_past g.S.Source.tells old _ c.args.line.now midway refl (get_or into 0 0 ∷ []) (c.is_long_with.ensures.long midway.raw midway.stands c.if-is_long_with.true));
      },
    )

pub returns-else-is_long_with-clause-stops : goal.returns-else-is_long_with-clause-stops
returns-else-is_long_with-clause-stops g c old midway =
    let into = c.take.new.into in
    let left = (g.S.Source.feed c.take.new.self).left in
    let one : take c.in-Ok.field-0 into ≡ get_or into 0 0 ∷ [] = one_byte c.in-Ok.field-0 into (omega (arith, c.in-Ok.ensures.within)) c.in-Ok.field-0-test.1 c.take.auto.into in
    record {
      got = midway.got;
      past = get_or into 0 0;
      moved = λ tells. midway.gets.moved tells
          ∙ ap (λ rest. midway.got ++ rest) ((c.in-Ok.ensures.taken tells).moved ∙ ap (λ front. front ++ left) one)
          ∙ sym (append_assoc midway.got (get_or into 0 0 ∷ []) left);
      limit = sym midway.gets.taken;
      none_ended = midway_none_ended g.S.Source.tells old _ c.args.line.now midway refl;
      none_long = short_past g.S.Source.tells old _ c.args.line.now midway refl (get_or into 0 0 ∷ []) (c.is_long_with.ensures.short midway.raw midway.stands c.if-is_long_with.false);
    }

pub returns-in-Err-clause-stops : goal.returns-in-Err-clause-stops
returns-in-Err-clause-stops g c old midway = breaks_off g.S.Source.tells old _ c.args.line.now midway _ refl c.in-Err.ensures.kept
