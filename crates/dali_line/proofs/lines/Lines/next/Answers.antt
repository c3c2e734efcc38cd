use Rattle.std.proofs.Common.{length, ap, subst, arith}
use Rattle.std.proofs.lemmas.List.{length-append}
use Rattle.dali_line.specs.Lines.{reach, MeetsLine}
use Rattle.dali_line.specs.Scan.{Finds}
use Rattle.dali_line.proofs.Scanning.{used_some}
use Rattle.dali_line.proofs.lines.Lines.next.Goals as goal

pub invariant_of-self : goal.invariant_of-self
invariant_of-self g c =
    let start = reach c.self.inside.block c.self.inside.taken (g.S.Source.feed c.args.source.now) in
    let now = reach c.read_command.new.block c.read_command.new.taken (g.S.Source.feed c.read_command.new.source) in
    let met : MeetsLine g.S.Source.tells c.in-Ok-Ended.line start now = subst (Finds g.S.Source.tells start now) c.in-Ok-Ended.field-0-is c.in-Ok-Ended.ensures.found in
    record {
      counted = omega (
        arith,
        c.self.invariant.counted,
        met.gets.taken,
        ap length met.parted,
        length-append c.self.inside.block met.got,
        length-append met.used c.read_command.new.block,
        used_some met.used c.in-Ok-Ended.line met.first,
      );
      within = c.in-Ok-Ended.ensures.within;
    }
