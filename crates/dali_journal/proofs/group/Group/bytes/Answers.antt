use Rattle.std.proofs.Common.{◌≡◌, length, vec_len, ap, arith, rules}
use Rattle.dali_journal.specs.Frames.{frames_length}
use Rattle.dali_journal.proofs.GroupLemmas.{text_length}
use Rattle.dali_journal.proofs.group.Group.bytes.Goals as goal

pub returns : goal.returns
returns c =
    let long : vec_len c.self.inside.text ≡ length c.self.inside.text.items = search rules in
    let frames = ap frames_length c.self.view_is in
    omega (arith, c.len.ensures, long, text_length _ c.self.inside.text.items c.self.invariant.0, frames)
