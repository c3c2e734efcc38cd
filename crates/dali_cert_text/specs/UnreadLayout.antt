use Rattle.std.specs.Prelude.{◌+◌, ◌^◌, ◌<◌, length}
use Rattle.dali_cert_text.specs.declared.unread.Unread.TheInside.{Inside}
use Rattle.dali_cert_text.specs.Stages.{Unread}

abbrev pub unread_of : Inside → Unread
unread_of a = record { text = a.bytes.now; taken = a.taken }

-- each line took a byte, and the number of one line more fits
pub record IsCounted (a : Inside) : Type 0 where
  pub fits : a.taken + length a.bytes.now + 1 < 2 ^ 64
