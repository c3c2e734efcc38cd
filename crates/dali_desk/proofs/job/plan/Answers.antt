use Rattle.std.proofs.Common.{◌≡◌, ◌∙◌, ◌+◌, ◌<◌, ◌≤◌, length, get_or, true, false, true≢false, sym, ap, subst, arith}
use Rattle.dali_desk.proofs.Jobs.{on_err, two_words}
use Rattle.dali_desk.proofs.job.plan.Goals as goal

pub returns-in-len2-3-clause-usage : goal.returns-in-len2-3-clause-usage
returns-in-len2-3-clause-usage c =
    let one = c.word-item-then-this-lt3.result in
    let mid = c.word-item-then-this-lt3-2.result in
    let two = c.word-item-then-this-lt3-3.result in
    on_err c.over_journal.result
    (λ none. two_words c.args.words.now one mid two (omega (arith, c.in-len2.len_at_least, c.in-len2.len_below, ap length c.as_slice.ensures))
    (c.word-item-then-this-lt3.is ∙ ap (λ ws. get_or ws 0 one) c.as_slice.ensures) (c.word-item-then-this-lt3-2.is ∙ ap (λ ws. get_or ws 0 mid) c.as_slice.ensures)
    (c.word-item-then-this-lt3-3.is ∙ ap (λ ws. get_or ws 0 two) c.as_slice.ensures) none
    (λ is. true≢false (sym (c.is_word-then-this-lt3.ensures.1 is) ∙ c.if-is_word-2.false))
    (λ is. true≢false (sym (c.is_word-then-this-lt3-2.ensures.1 is) ∙ c.if-is_word-3.false)))
    c.over_journal.ensures.usage
