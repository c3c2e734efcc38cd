use Rattle.std.proofs.Common.{◌≡◌, ◌≤◌, ◌∙◌, ℕ, Bool, true, List, length, inr, sym, subst, arith}
use Rattle.std.proofs.lemmas.Bool.Decides.{nat_tests}
use Rattle.std.specs.Prelude.{IfErr, Ok, Err, nat_le}
use Rattle.std.specs.declared.result.Result.{Result}
use Rattle.dali_base.proofs.Spelled.{and_parts}
use Rattle.dali_line.specs.Limits.{most_command}
use Rattle.dali_line.specs.Commands.{is_command}
use Rattle.dali_line.specs.Line.{is_line}
use Rattle.dali_line.specs.Lines.{Reach, FirstIsLong, Stops, MeetsLine}
use Rattle.dali_line.specs.Open.{Open}
use Rattle.dali_line.specs.Scan.{Finds, AtEnd, IsEnded, EndsWith, CutsOff}
use Rattle.dali_line.specs.declared.scan.Found.{Found}
use Rattle.dali_line.specs.declared.scan.Found.TheVariants.{Ended, Last, Nothing}
use Rattle.dali_line.specs.declared.line_end.LineEnd.{LineEnd}
use Rattle.dali_line.specs.declared.line_end.LineEnd.TheVariants.{ReadFault, LongLine, LongFile, OutOfMemory}
use Rattle.dali_line.proofs.Scanning.{all_commands, wanted_last}

pub if_err : {X E : Type 0} (r : Result X E) (P Q : E → Type 0) → IfErr r P → ((e : E) → P e → Q e) → IfErr r Q
if_err (Ok x) P Q is more = tt
if_err (Err e) P Q is more = more e is

-- a line can be kept only where it is a command
pub line_begins : (bytes : List ℕ) → is_line bytes ≡ true → is_command bytes ≡ true
line_begins bytes told = (and_parts _ _ (and_parts _ _ told).0).0

pub line_short : (bytes : List ℕ) → is_line bytes ≡ true → length bytes ≤ most_command
line_short bytes told =
    let test : nat_le (length bytes) most_command ≡ true =
    (and_parts (is_command bytes) (nat_le (length bytes) most_command) (and_parts _ _ told).0).1 in
    grind (arith, nat_tests)

pub ended_found : (told : Bool) (old now : Reach) (bytes : List ℕ) → MeetsLine told bytes old now → (found : Found) → IsEnded bytes found → Finds told old now found
ended_found told old now bytes meets (Ended line) is = subst (λ l. MeetsLine told l old now) (sym is) meets
ended_found told old now bytes meets (Last line) is = absurd is
ended_found told old now bytes meets Nothing is = absurd is

module _ (told : Bool) (old now : Reach) (line : Open) (at : AtEnd told old line now) where
  pub last_found : (found : Found) → EndsWith at.midway.raw found → Finds told old now found
  last_found (Ended l) is = absurd is
  last_found (Last l) is = record {
    got = at.midway.got;
    gets = at.midway.gets;
    only = all_commands told old now line at.midway at.used ∙ is;
    end = at.end;
    used = at.used;
  }
  last_found Nothing is = record { got = at.midway.got; gets = at.midway.gets; none = all_commands told old now line at.midway at.used ∙ is; end = at.end; used = at.used }

  pub last_stops : (number : ℕ) (end : LineEnd) → CutsOff number at.midway.raw end → Stops told number old now end
  last_stops number ReadFault is = absurd is
  last_stops number (LongLine k) is = (
    is.0,
    record {
      got = at.midway.got;
      moved = at.midway.gets.moved;
      within = omega (arith, at.midway.gets.taken, at.midway.gets.within);
      long = inr (record {
        long = subst FirstIsLong (sym (all_commands told old now line at.midway at.used)) is.1;
        within = omega (arith, at.midway.gets.taken, at.midway.gets.within);
        end = at.end;
      });
    },
  )
  last_stops number LongFile is = absurd is
  last_stops number OutOfMemory is = wanted_last told is.0 old now is.1 (last_found (Last is.0) is.2)
