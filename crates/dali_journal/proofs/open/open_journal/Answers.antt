use Rattle.std.proofs.Common.{◌≡◌, ◌∙◌, inr, take, IsTrue, sym, ap, subst, arith}
use Rattle.std.proofs.lemmas.Grind.{common_steps}
use Rattle.dali_journal.specs.Holds.{IsHeader}
use Rattle.dali_outside.specs.Outside.{now}
use Rattle.dali_outside.specs.Stops.{MayLeave}
use Rattle.dali_outside.proofs.Moments.{leaves_start, leaves_still, leaves_sync}
use Rattle.dali_journal.proofs.HeaderLemmas.{stands_first}
use Rattle.dali_journal.proofs.OneList.{one_list}
use Rattle.dali_journal.proofs.open.open_journal.Goals as goal

pub returns-then-size-clause-stops : goal.returns-then-size-clause-stops
returns-then-size-clause-stops g c = λ tells.
    let old = g.T.Site.sight c.args.site.now in
    let P = MayLeave (now old) in
    leaves_sync P old old (leaves_start P old (λ image text left. left)) (g.T.Site.sight c.sync.new.self) (c.in_ok-sync.ensures.firm tells) (c.size-size.ensures.told tells)

pub returns-in_err-read-clause-stops : goal.returns-in_err-read-clause-stops
returns-in_err-read-clause-stops g c = λ tells.
    let old = g.T.Site.sight c.args.site.now in
    let mid = g.T.Site.sight c.sync.new.self in
    let P = MayLeave (now old) in
    leaves_still P old mid (leaves_sync P old old (leaves_start P old (λ image text left. left)) mid (c.in_ok-sync.ensures.firm tells) (c.size-size.ensures.told tells))
    (g.T.Site.sight c.read.new.self) (c.read.ensures.disk tells) (c.read.ensures.text tells)

pub returns-in-Some-clause-stops : goal.returns-in-Some-clause-stops
returns-in-Some-clause-stops g c = λ tells.
    let old = g.T.Site.sight c.args.site.now in
    let mid = g.T.Site.sight c.sync.new.self in
    let P = MayLeave (now old) in
    leaves_still P old mid (leaves_sync P old old (leaves_start P old (λ image text left. left)) mid (c.in_ok-sync.ensures.firm tells) (c.size-size.ensures.told tells))
    (g.T.Site.sight c.read.new.self) (c.read.ensures.disk tells) (c.read.ensures.text tells)

pub returns-in-None-clause-stops : goal.returns-in-None-clause-stops
returns-in-None-clause-stops g c = λ tells.
    let old = g.T.Site.sight c.args.site.now in
    let mid = g.T.Site.sight c.sync.new.self in
    let P = MayLeave (now old) in
    leaves_still P old mid (leaves_sync P old old (leaves_start P old (λ image text left. left)) mid (c.in_ok-sync.ensures.firm tells) (c.size-size.ensures.told tells))
    (g.T.Site.sight c.read.new.self) (c.read.ensures.disk tells) (c.read.ensures.text tells)

pub returns-in-Some-clause-header : goal.returns-in-Some-clause-header
returns-in-Some-clause-header g c = λ tells.
    stands_first _ _ _ (c.in_ok-read.ensures.given tells ∙ ap (λ bs. take 16 bs) (c.in_ok-sync.ensures.firm tells).bytes) c.in-Some.ensures.some

pub returns-in-None-clause-damaged : goal.returns-in-None-clause-damaged
returns-in-None-clause-damaged g c = λ place why is.
    let size = c.if-size.false in
    let same : IsTrue g.T.Site.tells → take 16 (g.T.Site.sight c.args.site.now).bytes ≡ c.read.new.into =
    (λ tells. sym (c.in_ok-read.ensures.given tells ∙ ap (λ bs. take 16 bs) (c.in_ok-sync.ensures.firm tells).bytes)) in
    (grind (arith, common_steps), inr (grind (arith, common_steps), omega (arith, size, c.size-size.ensures.size), (λ tells edition header. c.in-None.ensures.none edition (subst (IsHeader edition) (same tells) header))))

pub returns-in_err-sync-clause-one_list : goal.returns-in_err-sync-clause-one_list
returns-in_err-sync-clause-one_list g c = λ image edition other list more a b. one_list edition other list more image a b

pub returns-then-size-clause-one_list : goal.returns-then-size-clause-one_list
returns-then-size-clause-one_list g c = λ image edition other list more a b. one_list edition other list more image a b

pub returns-in_err-read-clause-one_list : goal.returns-in_err-read-clause-one_list
returns-in_err-read-clause-one_list g c = λ image edition other list more a b. one_list edition other list more image a b

pub returns-in-Some-clause-one_list : goal.returns-in-Some-clause-one_list
returns-in-Some-clause-one_list g c = λ image edition other list more a b. one_list edition other list more image a b

pub returns-in-None-clause-one_list : goal.returns-in-None-clause-one_list
returns-in-None-clause-one_list g c = λ image edition other list more a b. one_list edition other list more image a b
