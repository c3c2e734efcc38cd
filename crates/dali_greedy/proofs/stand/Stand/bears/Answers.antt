use Rattle.std.proofs.Common.{◌^◌, sym, subst}
use Rattle.std.specs.List.{All}
use Rattle.dali_problem.specs.Limits.{Within}
use Rattle.dali_greedy.specs.Standing.{Standing, IsStandOf}
use Rattle.dali_greedy.proofs.Standings.{has_room}
use Rattle.dali_greedy.proofs.stand.Stand.bears.Goals as goal

pub bears-requires-clause-room : goal.bears-requires-clause-room
bears-requires-clause-room c =
    let inside : Standing = record { marks = c.self.inside.marks.items; has = c.self.inside.has.items } in
    let stand : IsStandOf c.args.problem.now inside = subst (IsStandOf c.args.problem.now) (sym c.self.view_is) c.requires.of in
    subst (All (Within (2 ^ 124))) (sym c.as_slice.ensures.value) (has_room c.args.problem.now inside c.effects.ensures.bounds stand)
