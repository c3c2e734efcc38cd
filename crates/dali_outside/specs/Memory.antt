use Rattle.std.specs.Prelude.{ℕ, ◌+◌, ◌-◌, ◌^◌, ◌==◌, min, Bool, true, false, if◌then◌else◌, nat_lt, ◌||◌, List, [], ◌∷◌, ◌++◌, length, take, drop, replicate, map, Option, Some}
use Rattle.std.specs.List.{find, zip}
use Rattle.std.specs.Option.{option_map, is_some}
use Rattle.dali_outside.specs.Outside.{Feed, Sight, overlay, now, after_print}
use Rattle.dali_outside.specs.declared.fault.Fault.{Fault}

-- a count after one more, which stops at u64's last value
abbrev pub one_more : ℕ → ℕ
one_more n = min (n + 1) (2 ^ 64 - 1)

-- the first entry for this call
abbrev pub listed : List Fault → ℕ → Option Fault
listed fails call = find (λ fault. fault.call == call) fails

-- a source in memory: what it is as a source, the most bytes that a take gives, the calls that are to fail, and the
-- number of calls so far
pub record Supply : Type 0 where
  pub feed : Feed
  pub piece : ℕ
  pub fails : List Fault
  pub made : ℕ

-- whether the next take fails
abbrev pub take_fails : Supply → Bool
take_fails supply = is_some (listed supply.fails (one_more supply.made))

-- how many bytes the next take gives to a piece of this length, where it doesn't fail
abbrev pub given : Supply → ℕ → ℕ
given supply room = min supply.piece (min room (length supply.feed.left))

-- the source after a take that moved n bytes
abbrev pub supply_moved : Supply → ℕ → Supply
supply_moved supply n = record {
  feed = record { left = drop n supply.feed.left; faults = supply.feed.faults };
  piece = supply.piece;
  fails = supply.fails;
  made = one_more supply.made;
}

-- the source after a take that failed
abbrev pub supply_failed : Supply → Supply
supply_failed supply = record {
  feed = record { left = supply.feed.left; faults = one_more supply.feed.faults };
  piece = supply.piece;
  fails = supply.fails;
  made = one_more supply.made;
}

-- a site in memory: what it is as a site, its rooms for printed bytes, for calls and for bytes that writes replace, the
-- number of bytes that writes have replaced, the calls that are to fail, the number of calls so far, and the number of
-- the last call before the fuse blows
pub record Board : Type 0 where
  pub sight : Sight
  pub text_room : ℕ
  pub call_room : ℕ
  pub written_room : ℕ
  pub written : ℕ
  pub fails : List Fault
  pub made : ℕ
  pub last : ℕ

-- whether the next call is beyond the room for calls
abbrev pub beyond_calls : Board → Bool
beyond_calls board = nat_lt board.call_room (one_more board.made)

-- whether a put of this length is beyond a room
abbrev pub beyond_text : Board → ℕ → Bool
beyond_text board len = beyond_calls board || nat_lt board.text_room (length board.sight.printed + len)

-- whether a write of this length is beyond a room
abbrev pub beyond_written : Board → ℕ → Bool
beyond_written board len = beyond_calls board || nat_lt board.written_room (board.written + len)

-- how many bytes of a piece of this length the next call lets through though it fails; none: it works, if it isn't
-- beyond a room
abbrev pub fault_of : Board → ℕ → Option ℕ
fault_of board len =
    if nat_lt board.last (one_more board.made)
    then Some 0
    else option_map (λ fault. min fault.went len) (listed board.fails (one_more board.made))

-- what stands where the first n bytes of a piece went through: these, and EE in the place of each other one
abbrev pub torn : List ℕ → ℕ → List ℕ
torn piece n = take n piece ++ replicate (length piece - n) 238

-- a count of disk faults after a call
abbrev pub faults_after : Bool → ℕ → ℕ
faults_after fails n = if fails then one_more n else n

-- the board after its next call, which left this sight and this number of bytes that writes have replaced
abbrev pub board_at : Board → Sight → ℕ → Board
board_at board sight written = record {
  sight = sight;
  text_room = board.text_room;
  call_room = board.call_room;
  written_room = board.written_room;
  written = written;
  fails = board.fails;
  made = one_more board.made;
  last = board.last;
}

-- the sight after a read
abbrev pub sight_read : Sight → Bool → Sight
sight_read s fails = record {
  size = s.size;
  bytes = s.bytes;
  loose = s.loose;
  printed = s.printed;
  past = s.past;
  disk_faults = faults_after fails s.disk_faults;
  print_faults = s.print_faults;
  syncs = s.syncs;
}

-- the sight after a write beyond a room: its range is loose
abbrev pub sight_loosened : Sight → ℕ → ℕ → Sight
sight_loosened s at len = record {
  size = s.size;
  bytes = s.bytes;
  loose = overlay s.loose at (replicate len true);
  printed = s.printed;
  past = s.past;
  disk_faults = one_more s.disk_faults;
  print_faults = s.print_faults;
  syncs = s.syncs;
}

-- the sight after a write after which this stands in its range
abbrev pub sight_written : Sight → Bool → ℕ → List ℕ → Sight
sight_written s fails at stands = record {
  size = s.size;
  bytes = overlay s.bytes at stands;
  loose = overlay s.loose at (replicate (length stands) true);
  printed = s.printed;
  past = s.past;
  disk_faults = faults_after fails s.disk_faults;
  print_faults = s.print_faults;
  syncs = s.syncs;
}

-- the sight after a sync that worked
abbrev pub sight_synced : Sight → Sight
sight_synced s = record {
  size = s.size;
  bytes = s.bytes;
  loose = replicate (length s.loose) false;
  printed = s.printed;
  past = s.past ++ now s ∷ [];
  disk_faults = s.disk_faults;
  print_faults = s.print_faults;
  syncs = one_more s.syncs;
}

-- the sight after a sync that failed
abbrev pub sight_unsynced : Sight → Sight
sight_unsynced s = record {
  size = s.size;
  bytes = s.bytes;
  loose = s.loose;
  printed = s.printed;
  past = s.past;
  disk_faults = one_more s.disk_faults;
  print_faults = s.print_faults;
  syncs = one_more s.syncs;
}

-- the sight after a put that printed these bytes
abbrev pub sight_printed : Sight → Bool → List ℕ → Sight
sight_printed s fails went = record {
  size = s.size;
  bytes = s.bytes;
  loose = s.loose;
  printed = s.printed ++ went;
  past = after_print s went;
  disk_faults = s.disk_faults;
  print_faults = faults_after fails s.print_faults;
  syncs = s.syncs;
}

-- a site on which nothing is loose and nothing is printed
abbrev pub new_board : List ℕ → ℕ → ℕ → ℕ → List Fault → Board
new_board bytes text calls written fails = record {
  sight = record {
    size = length bytes;
    bytes = bytes;
    loose = replicate (length bytes) false;
    printed = [];
    past = [];
    disk_faults = 0;
    print_faults = 0;
    syncs = 0;
  };
  text_room = text;
  call_room = calls;
  written_room = written;
  written = 0;
  fails = fails;
  made = 0;
  last = 2 ^ 64 - 1;
}

-- what reads give, with every loose byte made this one
abbrev pub filled : ℕ → List ℕ → List Bool → List ℕ
filled fill bytes loose = map (λ place. if place.1 then fill else place.0) (zip bytes loose)
