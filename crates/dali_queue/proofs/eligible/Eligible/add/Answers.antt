use Rattle.std.proofs.Common.{◌≡◌, ap, arith, length}
use Rattle.dali_base.specs.NameList.{NameList, with_name}
use Rattle.dali_queue.proofs.NameLemmas.{with_length, place_within}
use Rattle.dali_queue.proofs.eligible.Eligible.add.Goals as goal

pub put_place-requires : goal.put_place-requires
put_place-requires c =
    let less = place_within c.add.new.self.names c.args.group c.in_ok-number.number c.in_ok-number.ensures.place in
    let same : length c.add.new.self.names ≡ length (with_name c.args.self.now.groups c.args.group).names = ap (λ (n : NameList). length n.names) c.in_ok-number.ensures.ok in
    let grown = with_length c.args.self.now.groups c.args.group in
    omega (arith, less, same, grown, c.requires.members)
