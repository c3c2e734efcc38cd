use Rattle.std.proofs.Common.{◌≡◌, ◌<◌, ◌∙◌, true, length, sym, arith}
use Rattle.dali_rest.proofs.Marks.{within_left}
use Rattle.dali_greedy.proofs.Fits.{tight_line}
use Rattle.dali_greedy.proofs.Goes.{way_told, way_of}
use Rattle.dali_greedy.proofs.stand.Stand.exchange_touching.Goals as goal

pub gives_way-requires-clause-line : goal.gives_way-requires-clause-line
gives_way-requires-clause-line c =
    let within : c.args.place < length c.args.problem.now.items = omega (arith, within_left c.args.self.now.marks c.args.place c.requires.left, c.requires.of.marks) in
    (tight_line c.args.problem.now c.args.self.now c.args.place c.args.effect.now c.items-items.ensures.bounds within c.requires.tight).0

pub returns-then-not-gives_way-clause-none : goal.returns-then-not-gives_way-clause-none
returns-then-not-gives_way-clause-none c = λ _ betters.
    let told : c.gives_way.result ≡ true =
    c.gives_way.ensures ∙ way_of c.args.problem.now c.args.partial.now.marks c.args.self.now c.args.place c.args.effect.now c.args.touch.now c.items-items.ensures.bounds
    c.requires.of c.requires.left c.requires.tight c.requires.touch betters in
    let not_told = c.if-not-gives_way.true in
    absurd (cc (told, not_told))

pub exchange-requires-clause-given : goal.exchange-requires-clause-given
exchange-requires-clause-given c =
    (way_told c.args.problem.now c.args.partial.now.marks c.args.self.now c.args.place c.args.effect.now c.args.touch.now (sym c.gives_way.ensures ∙ c.if-not-gives_way.false)).0

pub returns-clause-betters : goal.returns-clause-betters
returns-clause-betters c = λ told.
    let way = way_told c.args.problem.now c.args.partial.now.marks c.args.self.now c.args.place c.args.effect.now c.args.touch.now (sym c.gives_way.ensures ∙ c.if-not-gives_way.false) in
    record { undecided = way.1; chosen = way.0; less = way.2; holds = c.exchange.ensures.holds told }

pub returns-clause-none : goal.returns-clause-none
returns-clause-none c = λ told betters. c.exchange.ensures.fails told betters.holds
