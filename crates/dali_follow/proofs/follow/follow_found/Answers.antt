use Rattle.std.proofs.Common.{[], sym, subst}
use Rattle.dali_replica.specs.Reading.{Reader}
use Rattle.dali_follow.specs.SoFar.{Reads, FollowsTo, PrintsLine}
use Rattle.dali_follow.proofs.Ended.{line_ended}
use Rattle.dali_follow.proofs.Standing.{stands_start}
use Rattle.dali_follow.proofs.Streams.{reads_start}
use Rattle.dali_follow.proofs.follow.follow_found.Goals as goal

pub returns-in-Ok : goal.returns-in-Ok
returns-in-Ok g c rests =
    let s = g.S.Source.tells in
    let t = g.T.Site.tells in
    let feed = g.S.Source.feed c.args.source.now in
    let mid = g.T.Site.sight c.args.site.now in
    let before = g.T.Site.sight c.take_frames.new.site in
    let after = g.T.Site.sight c.print_held.new.site in
    let edition = c.args.found.now.journal.edition in
    let found = c.args.found.now.entries in
    let to : FollowsTo s t feed mid edition found c.new-frames.result c.args.found.now feed mid = record {
      frames = [];
      reads = subst (λ (r : Reader). Reads s feed [] r feed) (sym c.new-frames.ensures) (reads_start s feed);
      stands = stands_start t mid c.args.found.now c.requires.found rests c.size-size.ensures.told;
    } in
    line_ended s t feed (g.S.Source.feed c.take_frames.new.source) mid edition found c.take_frames.new.found before after (c.in-Ok.ensures.all feed mid edition found to) c.print_held.ensures.told c.print_held.result
    (subst (λ n. PrintsLine t n before after c.print_held.result) c.len.ensures c.print_held.ensures.printed)

pub returns-in-Err : goal.returns-in-Err
returns-in-Err g c rests =
    let s = g.S.Source.tells in
    let t = g.T.Site.tells in
    let feed = g.S.Source.feed c.args.source.now in
    let mid = g.T.Site.sight c.args.site.now in
    let edition = c.args.found.now.journal.edition in
    let found = c.args.found.now.entries in
    let to : FollowsTo s t feed mid edition found c.new-frames.result c.args.found.now feed mid = record {
      frames = [];
      reads = subst (λ (r : Reader). Reads s feed [] r feed) (sym c.new-frames.ensures) (reads_start s feed);
      stands = stands_start t mid c.args.found.now c.requires.found rests c.size-size.ensures.told;
    } in
    c.in-Err.ensures.ended feed mid edition found to
