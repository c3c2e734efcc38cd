use Rattle.std.proofs.Common.{◌<◌, ◌+◌, ◌∙◌, List, length, drop, refl, sym, ap, subst, arith}
use Rattle.std.proofs.lemmas.List.{drop_all}
use Rattle.dali_account.proofs.MidwayLemmas.{next_rest}
use Rattle.dali_ledger.specs.declared.posting.Posting.{Posting}
use Rattle.dali_ledger.specs.Postings.{posted}
use Rattle.dali_ledger.proofs.NetLemmas.{Midway, sum_fits, midway_more}
use Rattle.dali_ledger.proofs.ledger.Ledger.post_moves.Goals as goal

pub loop-item-init : goal.loop-item-init
loop-item-init c = record {
  room = omega arith;
  midway = record { result = refl; rising = c.requires.net.rising };
}

pub post_move-requires-clause-sum : goal.post_move-requires-clause-sum
post_move-requires-clause-sum c =
    let lt : c.loop-item.item-index < length c.args.moves.now = omega arith in
    let mid = subst (Midway c.args.command c.args.self.now.postings c.loop-item.self.postings c.args.moves.now) (next_rest c.args.moves.now c.loop-item.item-index c.item-item.result lt c.item-item.is) c.loop-item.invariant.midway in
    sum_fits c.args.command c.args.self.now.postings c.loop-item.self.postings c.args.moves.now c.item-item.result (drop (c.loop-item.item-index + 1) c.args.moves.now) mid c.requires.sums

pub loop-item-preserved : goal.loop-item-preserved
loop-item-preserved c =
    let lt : c.loop-item.item-index < length c.args.moves.now = omega arith in
    let mid = subst (Midway c.args.command c.args.self.now.postings c.loop-item.self.postings c.args.moves.now) (next_rest c.args.moves.now c.loop-item.item-index c.item-item.result lt c.item-item.is) c.loop-item.invariant.midway in
    let more = midway_more c.args.command c.args.self.now.postings c.loop-item.self.postings c.args.moves.now c.item-item.result (drop (c.loop-item.item-index + 1) c.args.moves.now) mid in
    record {
      room = omega (arith, c.post_move.ensures.room, c.loop-item.invariant.room);
      midway = subst (λ (ps : List Posting). Midway c.args.command c.args.self.now.postings ps c.args.moves.now (drop (c.loop-item.item-index + 1) c.args.moves.now)) (sym c.post_move.ensures.postings) more;
    }

pub returns-clause-postings : goal.returns-clause-postings
returns-clause-postings c =
    ap (posted c.loop-item.self.postings c.args.command) (sym (drop_all c.loop-item.item-index c.args.moves.now c.loop-item-test.false))
    ∙ c.loop-item.invariant.midway.result
