use Rattle.std.proofs.Common.{◌≡◌, ℕ, ◌+◌, List, ◌++◌, length, take, drop, ap, sym, ◌∙◌, arith}
use Rattle.std.proofs.lemmas.List.{drop-drop, take-append-drop, nil_from_length}
use Rattle.dali_outside.proofs.mem_source.MemSourceSource.take.Goals as goal

moved : (bytes front : List ℕ) (at n : ℕ) → take n front ≡ take n (drop at bytes) →
    drop at bytes ≡ take n front ++ drop (at + n) bytes
moved bytes front at n same =
    sym (ap (λ part. part ++ drop (at + n) bytes) same
    ∙ ap (λ rest. take n (drop at bytes) ++ rest) (sym (drop-drop n at bytes))
    ∙ take-append-drop n (drop at bytes))

pub returns-clause-taken : goal.returns-clause-taken
returns-clause-taken c =
    let was : c.args.self.now.feed.left ≡ drop c.self.inside.at c.self.inside.bytes =
    ap (λ s. s.feed.left) (sym c.self.view_is) in
    let left : c.split_at.result.1.now ≡ drop c.self.inside.at c.self.inside.bytes =
    c.split_at.ensures.back ∙ ap (λ bytes. drop c.self.inside.at bytes) c.as_slice.ensures in
    record {
      moved = was
          ∙ moved c.self.inside.bytes c.fill-n.new.into c.self.inside.at c.fill-n.result
          (c.fill-n.ensures.front ∙ ap (λ bytes. take c.fill-n.result bytes) left);
      ends = λ none room. was ∙ nil_from_length (drop c.self.inside.at c.self.inside.bytes) (omega (arith, ap length left, c.fill-n.ensures.amount, none, room, c.self.invariant.1, c.fill-n.auto.into));
    }
