use Rattle.std.proofs.Common.{◌≡◌, []}
use Rattle.dali_desk.proofs.init.make_journal.Goals as goal

pub returns-in-Ok : goal.returns-in-Ok
returns-in-Ok g c = record {
  statuses = tt;
  fault = λ told. absurd (cc told);
  done = λ tells told. c.in-Ok.ensures.empty tells;
  bytes = λ tells told. c.in-Ok.ensures.bytes tells;
  images = λ tells told. c.in-Ok.ensures.images tells;
  stops = c.format-made.ensures.torn;
  outside = c.format-made.ensures.outside;
  whole = c.size-size.ensures.told;
  silent = λ tells. c.format-made.ensures.silent tells;
  goes = c.format-made.ensures.goes;
  syncs = c.format-made.ensures.syncs;
}
