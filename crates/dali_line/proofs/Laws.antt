use Rattle.std.proofs.Common.{◌≡◌, ◌∙◌, ℕ, ◌<◌, ◌≤◌, true, Option, Some, None, List, [], ◌∷◌, length, refl, sym, ap, subst, arith}
use Rattle.std.proofs.lemmas.Bool.Decides.{nat_tests}
use Rattle.std.proofs.lemmas.List.Splits.{join_with_byte-slice_split}
use Rattle.std.specs.List.{join_with_byte}
use Rattle.std.specs.Prelude.{IfSome, IfNone, option_and_then, nat_le}
use Rattle.dali_base.specs.Spelling.{moment_digits}
use Rattle.dali_base.specs.Readers.{spelled_moment}
use Rattle.dali_base.proofs.Spelled.{and_parts, both, chosen, taken, moment_spelled, moment_found}
use Rattle.dali_line.specs.declared.command.Command.{Command}
use Rattle.dali_line.specs.declared.command.Verb.{Verb}
use Rattle.dali_line.specs.Grammar.{pieces_of, first_edition, HasFields, IsCommand, Spells}
use Rattle.dali_line.specs.Reading.{pieces, spelled_verb, in_edition, spelled_command, command_of}
use Rattle.dali_line.proofs.Plain.{split_join, plain_pieces, moment_plain}
use Rattle.dali_line.proofs.PieceCounts.{too_long}
use Rattle.dali_line.proofs.Steps.{bind_some, bind_none}
use Rattle.dali_line.proofs.Spelled.{verb_spelled}
use Rattle.dali_line.proofs.Found.{verb_found, verb_pieces}

-- What is read is in the grammar.

edition_spelled : (e : ℕ) (v w : Verb) → in_edition e v ≡ Some w → (v ≡ w) × (first_edition v ≤ e) × (e ≤ 4)
edition_spelled e v w told =
    let parts = chosen _ v w told in
    let tests = and_parts (nat_le (first_edition v) e) (nat_le e 4) parts.0 in
    (parts.1, grind (arith, nat_tests, tests.0), grind (arith, nat_tests, tests.1))

pub command_spelled : (e : ℕ) (ps : List (List ℕ)) (c : Command) → spelled_command e ps ≡ Some c →
    IsCommand e c × (moment_digits c.moment ∷ pieces_of c.verb ≡ ps)
command_spelled e [] c told = cc
command_spelled e (m ∷ vs) c told =
    let moment = bind_some _ (spelled_moment m) c told in
    let verb = bind_some _ (spelled_verb vs) c moment.2 in
    let edition = bind_some _ (in_edition e verb.0) c verb.2 in
    let known : Some (record { moment = moment.0; verb = edition.0 }) ≡ Some c = edition.2 in
    let is : record { moment = moment.0; verb = edition.0 } ≡ c = cc in
    let when = moment_spelled m moment.0 moment.1 in
    let what = verb_spelled vs verb.0 verb.1 in
    let since = edition_spelled e verb.0 edition.0 edition.1 in
    let command : IsCommand e (record { moment = moment.0; verb = edition.0 }) = record {
      moment = when.0;
      fields = subst HasFields since.0 what.fields;
      since = subst (λ v. first_edition v ≤ e) since.0 since.1;
      newest = since.2;
    } in
    let spelled : moment_digits moment.0 ∷ pieces_of edition.0 ≡ m ∷ vs =
    ap (λ d. d ∷ pieces_of edition.0) (sym when.1) ∙ ap (λ ps. m ∷ ps) (ap pieces_of (sym since.0) ∙ what.pieces) in
    subst (λ (k : Command). IsCommand e k × (moment_digits k.moment ∷ pieces_of k.verb ≡ m ∷ vs)) is (command, spelled)

pub line_spelled : (e : ℕ) (line : List ℕ) (c : Command) → command_of e line ≡ Some c → Spells e line c
unfolding command_of
line_spelled e line c told =
    let parts = command_spelled e (pieces line) c told in
    record { command = parts.0; spelled = sym (join_with_byte-slice_split 44 line) ∙ ap (join_with_byte 44) (sym parts.1) }

-- What is in the grammar is read.

edition_found : (e : ℕ) (v : Verb) → first_edition v ≤ e → e ≤ 4 → in_edition e v ≡ Some v
edition_found e v since newest =
    let first : nat_le (first_edition v) e ≡ true = grind (arith, nat_tests, since) in
    let last : nat_le e 4 ≡ true = grind (arith, nat_tests, newest) in
    taken _ v (both (nat_le (first_edition v) e) (nat_le e 4) first last)

pub line_found : (e : ℕ) (line : List ℕ) (c : Command) → Spells e line c → command_of e line ≡ Some c
unfolding command_of
line_found e line c spells =
    let v = c.verb in
    let cut : pieces line ≡ moment_digits c.moment ∷ pieces_of c.verb =
    ap pieces spells.spelled
    ∙ split_join (moment_digits c.moment) (pieces_of c.verb) (moment_plain c.moment) (plain_pieces (pieces_of c.verb) (verb_pieces c.verb spells.command.fields)) in
    let last : Verb → Option Command = λ w. Some (record { moment = c.moment; verb = w }) in
    ap (spelled_command e) cut
    ∙ ap (option_and_then (λ m. option_and_then (λ v. option_and_then (λ w. Some (record { moment = m; verb = w })) (in_edition e v)) (spelled_verb (pieces_of c.verb))))
    (moment_found (moment_digits c.moment) c.moment spells.command.moment refl)
    ∙ ap (option_and_then (λ v. option_and_then last (in_edition e v))) (verb_found c.verb spells.command.fields)
    ∙ ap (option_and_then last) (edition_found e c.verb spells.command.since spells.command.newest)

-- so the other clauses of a reader of lines follow from its exact one
pub read_some : (e : ℕ) (line : List ℕ) (r : Option Command) → r ≡ command_of e line → IfSome r (λ c. Spells e line c)
read_some e line None told = tt
read_some e line (Some c) told = line_spelled e line c (sym told)

pub read_none : (e : ℕ) (line : List ℕ) (r : Option Command) → r ≡ command_of e line → IfNone r ((c : Command) → Spells e line c → ⊥)
read_none e line (Some c) told = tt
read_none e line None told = λ c spells. let found : command_of e line ≡ Some c = line_found e line c spells in cc

-- and no line spells two commands
pub read_only : (e : ℕ) (line : List ℕ) (r : Option Command) → r ≡ command_of e line → (c : Command) → Spells e line c → r ≡ Some c
read_only e line r told c spells = told ∙ line_found e line c spells

none_of_many : (e : ℕ) (ps : List (List ℕ)) → 8 < length ps → spelled_command e ps ≡ None
none_of_many e [] many = refl
none_of_many e (m ∷ vs) many =
    let never : spelled_verb vs ≡ None = too_long vs (omega (arith, many)) in
    bind_none _ (spelled_moment m) (λ k. ap (option_and_then (λ v. option_and_then (λ w. Some (record { moment = k; verb = w })) (in_edition e v))) never)

-- a line of more than eight pieces is no command
pub too_many : (e : ℕ) (line : List ℕ) → 8 < length (pieces line) → None ≡ command_of e line
unfolding command_of
too_many e line many = sym (none_of_many e (pieces line) many)
