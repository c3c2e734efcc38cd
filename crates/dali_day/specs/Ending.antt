use Rattle.dali_line.specs.declared.line_end.LineEnd.{LineEnd}
use Rattle.dali_line.specs.declared.line_end.LineEnd.TheVariants as lines
use Rattle.dali_recover.specs.declared.refusal.RecoverNo.{RecoverNo}
use Rattle.dali_recover.specs.declared.refusal.RecoverNo.TheVariants as recovery
use Rattle.dali_register.specs.declared.refusal.RegisterNo.{RegisterNo}
use Rattle.dali_register.specs.declared.refusal.RegisterNo.TheVariants as register
use Rattle.dali_day.specs.declared.end.DayEnd.{DayEnd}
use Rattle.dali_day.specs.declared.end.DayEnd.TheVariants.{ReadFault, PrintFault, DiskFault, Damaged, LongLine, LongFile, JournalFull, OutOfMemory}

-- how the day ends where the reader of lines gives no more
abbrev pub end_of_input : LineEnd → DayEnd
end_of_input lines.ReadFault = ReadFault
end_of_input (lines.LongLine k) = LongLine k
end_of_input lines.LongFile = LongFile
end_of_input lines.OutOfMemory = OutOfMemory

-- where the register couldn't take or flush
abbrev pub end_of_register : RegisterNo → DayEnd
end_of_register register.DiskFault = DiskFault
end_of_register register.PrintFault = PrintFault
end_of_register (register.JournalFull need left) = JournalFull need left
end_of_register register.OutOfMemory = OutOfMemory

-- and where no history was recovered
abbrev pub end_of_recovery : RecoverNo → DayEnd
end_of_recovery recovery.DiskFault = DiskFault
end_of_recovery (recovery.Damaged place why) = Damaged place why
end_of_recovery recovery.OutOfMemory = OutOfMemory
