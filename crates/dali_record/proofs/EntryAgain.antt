-- The record of an entry within the bounds is read as that entry.
use Rattle.std.proofs.Common.{◌≡◌, ℕ, zero, suc, ◌+◌, ◌-◌, ◌^◌, ◌<◌, ◌≤◌, true, false, ◌&&◌, not, eqb, ltb, List, [], ◌∷◌, ◌++◌, length, get_or, Option, Some, None, refl, sym, ◌∙◌, ap, subst, append_assoc, arith}
use Rattle.std.specs.Prelude.{IfSome, nat_le}
use Rattle.std.specs.List.{All, AllPairs, AllByRecursion, flat_map, list_all}
use Rattle.std.specs.Int.{w16, w64}
use Rattle.std.proofs.lemmas.Bool.{and_parts, leb-true, le-ltb}
use Rattle.std.proofs.lemmas.List.{take_at, drop_at, length-append, append-nil}
use Rattle.std.proofs.lemmas.List.Concat.{flat_map-cons}
use Rattle.std.proofs.lemmas.List.Elements.{recursion_from_All}
use Rattle.std.proofs.lemmas.List.Sums.{sum_by-cons}
use Rattle.dali_line.specs.Commands.{is_command}
use Rattle.dali_line.specs.Line.{MOST_OF_COMMAND, is_line}
use Rattle.dali_tree.specs.declared.choice.Part.{Part}
use Rattle.dali_tree.specs.declared.choice.Choice.{Choice}
use Rattle.dali_tree.specs.declared.tree.Tree.{Tree}
use Rattle.dali_tree.specs.Tree.{branch_count}
use Rattle.dali_tree.specs.Fits.{AreRising, PartFits, first_member}
use Rattle.dali_entry.specs.EntryRecord.{EntryRecord}
use Rattle.dali_record.specs.Multipliers.{all_zero}
use Rattle.dali_record.specs.TreeText.{two_bytes, eight_bytes, places_text, tree_text}
use Rattle.dali_record.specs.RecordText.{part_text, choice_text, option_text, record_text}
use Rattle.dali_record.specs.IsRecord.{branches_of, IsChoiceWithin, IsWithin}
use Rattle.dali_record.specs.Reading.{number_at, list_at, place_at, tree_at}
use Rattle.dali_record.specs.EntryReading.{part_at, parts_at, choice_at, option_at, line_at, entry_at}
use Rattle.dali_record.proofs.Fields.{ReadsAgain, two_again, eight_again, list_again, some_is}
use Rattle.dali_record.proofs.TreeAgain.{tree_again}

-- ---- rising lists are short

keys_climb : {X : Type 0} (key : X → ℕ) (xs : List X) → AllPairs (λ a b. key a < key b) xs → (d : X) (i : ℕ) → i < length xs → i ≤ key (get_or xs i d)
keys_climb key xs rising d zero below = omega arith
keys_climb key xs rising d (suc i) below =
    let before = keys_climb key xs rising d i (omega arith) in
    let step = rising i (suc i) d (omega arith) below in
    omega (arith, before, step)

pub short_list : {X : Type 0} (key : X → ℕ) (n : ℕ) (xs : List X) → AllPairs (λ a b. key a < key b) xs → All (λ x. key x < n) xs → length xs ≤ n
short_list key n [] rising below = omega arith
short_list key n (x ∷ xs) rising below =
    let at = keys_climb key (x ∷ xs) rising x (length xs) (omega arith) in
    let last = below (length xs) x (omega arith) in
    omega (arith, at, last)

-- ---- places

abbrev IsPlace : ℕ → Type 0
IsPlace place = place < 2 ^ 16

place_again : ReadsAgain IsPlace two_bytes place_at
unfolding place_at
place_again = record { again = (λ place rest small. two_again place rest small) }

places_again : (places rest : List ℕ) → AreRising 1024 places → list_at place_at (places_text places ++ rest) ≡ Some (places, rest)
places_again places rest rise =
    let short = short_list (λ (k : ℕ). k) 1024 places rise.rising rise.in_range in
    list_again IsPlace two_bytes place_at place_again places rest (omega (arith, short))
    (recursion_from_All IsPlace places (λ k d below. let small = rise.in_range k d below in omega (arith, small)))

-- ---- parts

part_regrouped : (a b c rest : List ℕ) → (a ++ (b ++ c)) ++ rest ≡ a ++ (b ++ (c ++ rest))
part_regrouped a b c rest = simp append_assoc

part_read : (left between : ℕ) (bytes b1 b2 b3 : List ℕ) (members : List ℕ) (bound : ℕ) (tree : Tree) → list_at place_at bytes ≡ Some (members, b1) → number_at w64 b1 ≡ Some (bound, b2) →
    tree_at 1024 left all_zero b2 ≡ Some (tree, between, b3) → part_at left bytes ≡ Some (record { members = members; bound = bound; tree = tree }, between, b3)
unfolding part_at
part_read left between bytes b1 b2 b3 members bound tree one two three = rw (one, two, three) refl

part_again : (part : Part) (spare : ℕ) (rest : List ℕ) → PartFits 1024 4096 part → part_at (branch_count part.tree + spare) (part_text part ++ rest) ≡ Some (part, spare, rest)
part_again part spare rest fits =
    let most = fits.bound in
    ap (part_at (branch_count part.tree + spare)) (part_regrouped (places_text part.members) (eight_bytes part.bound) (tree_text part.tree all_zero) rest)
    ∙ part_read (branch_count part.tree + spare) spare _ (eight_bytes part.bound ++ (tree_text part.tree all_zero ++ rest)) (tree_text part.tree all_zero ++ rest) rest part.members part.bound part.tree
    (places_again part.members (eight_bytes part.bound ++ (tree_text part.tree all_zero ++ rest)) fits.members)
    (eight_again part.bound (tree_text part.tree all_zero ++ rest) (omega (arith, most)))
    ((tree_again part.tree).again 1024 spare all_zero rest fits.depth fits.tree)

parts_again : (parts : List Part) (spare : ℕ) (rest : List ℕ) → AllByRecursion (PartFits 1024 4096) parts →
    parts_at (length parts) (branches_of parts + spare) (flat_map part_text parts ++ rest) ≡ Some (parts, spare, rest)
unfolding parts_at
parts_again [] spare rest fits = ap (λ (k : ℕ). Some ([], k, rest)) (omega arith)
parts_again (part ∷ parts) spare rest fits =
    let bytes : flat_map part_text (part ∷ parts) ++ rest ≡ part_text part ++ (flat_map part_text parts ++ rest) =
    ap (λ (t : List ℕ). t ++ rest) (flat_map-cons part_text part parts) ∙ append_assoc (part_text part) (flat_map part_text parts) rest in
    let left : branches_of (part ∷ parts) + spare ≡ branch_count part.tree + (branches_of parts + spare) = omega (arith, sum_by-cons (λ (p : Part). branch_count p.tree) part parts) in
    ap (λ (k : ℕ). parts_at (suc (length parts)) k (flat_map part_text (part ∷ parts) ++ rest)) left
    ∙ ap (parts_at (suc (length parts)) (branch_count part.tree + (branches_of parts + spare))) bytes
    ∙ rw (part_again part (branches_of parts + spare) (flat_map part_text parts ++ rest) fits.0, parts_again parts spare rest fits.1) refl

-- ---- a choice, and an entry

choice_read : (left n : ℕ) (bytes b1 b2 b3 : List ℕ) (places : List ℕ) (parts : List Part) → list_at place_at bytes ≡ Some (places, b1) → number_at w16 b1 ≡ Some (n, b2) →
    parts_at n 4096 b2 ≡ Some (parts, left, b3) → choice_at bytes ≡ Some (record { places = places; parts = parts }, b3)
unfolding choice_at
choice_read left n bytes b1 b2 b3 places parts one two three = rw (one, two, three) refl

first_below : (part : Part) → PartFits 1024 4096 part → first_member part < 1024
first_below part fits = fits.members.in_range 0 0 fits.some

choice_again : (choice : Choice) (rest : List ℕ) → IsChoiceWithin choice → choice_at (choice_text choice ++ rest) ≡ Some (choice, rest)
choice_again choice rest within =
    let short = short_list first_member 1024 choice.parts within.fits.order (λ k d below. first_below _ (within.fits.parts k d below)) in
    let some = within.branches in
    let spare : branches_of choice.parts + (4096 - branches_of choice.parts) ≡ 4096 = omega (arith, some) in
    let parts = parts_again choice.parts (4096 - branches_of choice.parts) rest (recursion_from_All (PartFits 1024 4096) choice.parts within.fits.parts) in
    ap choice_at (part_regrouped (places_text choice.places) (two_bytes (length choice.parts)) (flat_map part_text choice.parts) rest)
    ∙ choice_read (4096 - branches_of choice.parts) (length choice.parts) _ (two_bytes (length choice.parts) ++ (flat_map part_text choice.parts ++ rest)) (flat_map part_text choice.parts ++ rest) rest
    choice.places choice.parts
    (places_again choice.places (two_bytes (length choice.parts) ++ (flat_map part_text choice.parts ++ rest)) within.fits.set)
    (two_again (length choice.parts) (flat_map part_text choice.parts ++ rest) (omega (arith, short)))
    (subst (λ (k : ℕ). parts_at (length choice.parts) k (flat_map part_text choice.parts ++ rest) ≡ Some (choice.parts, 4096 - branches_of choice.parts, rest)) spare parts)

option_again : (choice : Option Choice) (rest : List ℕ) → IfSome choice IsChoiceWithin → option_at (option_text choice ++ rest) ≡ Some (choice, rest)
unfolding option_at
option_again None rest within = refl
option_again (Some choice) rest within = rw (choice_again choice rest within) refl

line_again : (line rest : List ℕ) → is_line line ≡ true → line_at (two_bytes (length line) ++ (line ++ rest)) ≡ Some (line, rest)
unfolding line_at
line_again line rest told =
    let a = and_parts (is_command line && nat_le (length line) MOST_OF_COMMAND) (list_all (λ b. not (eqb b 10)) line) told in
    let b = and_parts (is_command line) (nat_le (length line) MOST_OF_COMMAND) a.0 in
    let short = leb-true (length line) MOST_OF_COMMAND b.1 in
    let long : ltb (length (line ++ rest)) (length line) ≡ false = le-ltb _ _ (omega (arith, length-append line rest)) in
    rw (two_again (length line) (line ++ rest) (omega (arith, short)), long, take_at line rest (length line) refl, drop_at line rest (length line) refl, told) refl

entry_read : (edition : ℕ) (bytes b1 b2 : List ℕ) (line : List ℕ) (choice : Option Choice) → line_at bytes ≡ Some (line, b1) → option_at b1 ≡ Some (choice, b2) →
    entry_at (edition ∷ bytes) ≡ Some (record { edition = edition; line = line; choice = choice }, b2)
unfolding entry_at
entry_read edition bytes b1 b2 line choice one two = rw (one, two) refl

pub entry_again : (e : EntryRecord) → IsWithin e → entry_at (record_text e) ≡ Some (e, [])
entry_again e within =
    let choice = option_again e.choice [] within.choice in
    entry_read e.edition _ (option_text e.choice) [] e.line e.choice (line_again e.line (option_text e.choice) within.line)
    (ap option_at (sym (append-nil (option_text e.choice))) ∙ choice)

-- no record is that of two entries
pub one_entry : (e f : EntryRecord) → IsWithin e → IsWithin f → record_text e ≡ record_text f → e ≡ f
one_entry e f first second same =
    let told : (e, []) ≡ (f, []) = some_is (e, []) (f, []) (sym (entry_again e first) ∙ ap entry_at same ∙ entry_again f second) in
    ap (λ (x : EntryRecord × List ℕ). x.0) told
