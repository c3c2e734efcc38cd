use Rattle.std.proofs.Common.{take}
use Rattle.dali_rest.specs.Room.{IsRoomOf}
use Rattle.dali_rest.specs.Turns.{IsOpened}
use Rattle.dali_rest.proofs.room.Room.open_members.Given as goal

abbrev pub invariant-loop-place : goal.invariant-loop-place
invariant-loop-place l = record {
  room : IsRoomOf l.problem l.self;
  opened : IsOpened l.fn.self.marks l.self.marks (take l.place-index l.members);
}
