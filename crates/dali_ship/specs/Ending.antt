use Rattle.std.specs.Prelude.{Result, Ok, Err}
use Rattle.dali_recover.specs.declared.refusal.RecoverNo.{RecoverNo}
use Rattle.dali_recover.specs.declared.refusal.RecoverNo.TheVariants as errors
use Rattle.dali_ship.specs.declared.printing.PrintNo.{PrintNo}
use Rattle.dali_ship.specs.declared.printing.PrintNo.TheVariants as printing
use Rattle.dali_ship.specs.declared.ship.ShipEnd.{ShipEnd}
use Rattle.dali_ship.specs.declared.ship.ShipEnd.TheVariants.{Done, PrintFault, DiskFault, Damaged, OutOfMemory}

-- how a ship ends that found no history
abbrev pub unshipped : RecoverNo → ShipEnd
unshipped errors.DiskFault = DiskFault
unshipped (errors.Damaged place why) = Damaged place why
unshipped errors.OutOfMemory = OutOfMemory

-- how a ship ends that found one, by how its printing ended
abbrev pub ended : Result Unit PrintNo → ShipEnd
ended (Ok u) = Done
ended (Err printing.PrintFault) = PrintFault
ended (Err printing.OutOfMemory) = OutOfMemory
