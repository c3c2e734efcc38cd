use Rattle.dali_journal.specs.declared.refusal.AppendNo.{AppendNo}
use Rattle.dali_journal.specs.declared.refusal.AppendNo.TheVariants as appending
use Rattle.dali_recover.specs.declared.refusal.RecoverNo.{RecoverNo}
use Rattle.dali_recover.specs.declared.refusal.RecoverNo.TheVariants as recovery
use Rattle.dali_replica.specs.declared.refusal.FrameNo.{FrameNo}
use Rattle.dali_replica.specs.declared.refusal.FrameNo.TheVariants as stream
use Rattle.dali_follow.specs.declared.end.FollowEnd.{FollowEnd}
use Rattle.dali_follow.specs.declared.end.FollowEnd.TheVariants.{ReadFault, DiskFault, Damaged, BadFrame, LongFile, JournalFull, OutOfMemory}

-- how the run ends where no history was recovered
abbrev pub end_of_recovery : RecoverNo → FollowEnd
end_of_recovery recovery.DiskFault = DiskFault
end_of_recovery (recovery.Damaged place why) = Damaged place why
end_of_recovery recovery.OutOfMemory = OutOfMemory

-- where the reader of frames gives no more
abbrev pub end_of_stream : FrameNo → FollowEnd
end_of_stream stream.ReadFault = ReadFault
end_of_stream (stream.BadLength place) = BadFrame place
end_of_stream stream.LongFile = LongFile
end_of_stream stream.OutOfMemory = OutOfMemory

-- and where a record couldn't be appended
abbrev pub end_of_append : AppendNo → FollowEnd
end_of_append appending.DiskFault = DiskFault
end_of_append (appending.JournalFull need left) = JournalFull need left
