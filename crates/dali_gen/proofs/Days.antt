use Rattle.std.proofs.Common.{◌≡◌, ◌∙◌, ℕ, ◌+◌, ◌*◌, List, [], ◌∷◌, ◌++◌, length, map, sym, ap, append_assoc, arith, length-append}
use Rattle.std.specs.Prelude.{codes}
use Rattle.std.specs.List.{range_with_len}
use Rattle.std.proofs.lemmas.List.Concat.{flat_map-append}
use Rattle.std.proofs.lemmas.List.FromFn.{length-map-range_with_len}
use Rattle.dali_gen.specs.Day.{text_of, part_line, inst_line, cash_line, holding_line, instruction_line, hour_of, group_size, cycle_line, part_lines, inst_lines, cash_lines, holding_lines, group_lines, all_group_lines, day_lines, generated}

text_append : (xs ys : List (List ℕ)) → text_of (xs ++ ys) ≡ text_of xs ++ text_of ys
text_append xs ys = flat_map-append (λ l. l ++ 10 ∷ []) xs ys

six : (a b c d e f : List (List ℕ)) →
    text_of (a ++ b ++ c ++ d ++ e ++ f) ≡ text_of a ++ text_of b ++ text_of c ++ text_of d ++ text_of e ++ text_of f
six a b c d e f =
    text_append (a ++ b ++ c ++ d ++ e) f
    ∙ ap (λ t. t ++ text_of f) (text_append (a ++ b ++ c ++ d) e
    ∙ ap (λ t. t ++ text_of e) (text_append (a ++ b ++ c) d
    ∙ ap (λ t. t ++ text_of d) (text_append (a ++ b) c ∙ ap (λ t. t ++ text_of c) (text_append a b))))

regroup : (a b c d e f : List ℕ) → ((a ++ (b ++ (c ++ d))) ++ e) ++ f ≡ a ++ b ++ c ++ d ++ e ++ f
regroup a b c d e f = simp append_assoc

-- the text of the parts of the file, one after the other
pub day_told : (n : ℕ) →
    ((text_of part_lines ++ (text_of (inst_lines n) ++ (text_of cash_lines ++ text_of holding_lines))) ++ text_of (all_group_lines n)) ++ codes "140000,CLOSE\n"
    ≡ generated n
unfolding day_lines generated
day_told n =
    regroup (text_of part_lines) (text_of (inst_lines n)) (text_of cash_lines) (text_of holding_lines) (text_of (all_group_lines n)) (codes "140000,CLOSE\n")
    ∙ sym (six part_lines (inst_lines n) cash_lines holding_lines (all_group_lines n) (codes "140000,CLOSE" ∷ []))

pub day_text : (n : ℕ) (text opened grouped closed : List ℕ) → text ≡ [] →
    opened ≡ text ++ (text_of part_lines ++ (text_of (inst_lines n) ++ (text_of cash_lines ++ text_of holding_lines))) →
    grouped ≡ opened ++ text_of (all_group_lines n) → closed ≡ grouped ++ codes "140000,CLOSE\n" → closed ≡ generated n
day_text n text opened grouped closed none one two three =
    let opening : List ℕ = text_of part_lines ++ (text_of (inst_lines n) ++ (text_of cash_lines ++ text_of holding_lines)) in
    let first : opened ≡ opening = one ∙ ap (λ (t : List ℕ). t ++ opening) none in
    three ∙ ap (λ (t : List ℕ). t ++ codes "140000,CLOSE\n") (two ∙ ap (λ (t : List ℕ). t ++ text_of (all_group_lines n)) first) ∙ day_told n

parts_count : length part_lines ≡ 12
unfolding part_lines
parts_count = length-map-range_with_len part_line 0 12

insts_count : (n : ℕ) → length (inst_lines n) ≡ 30
unfolding inst_lines
insts_count n = length-map-range_with_len (inst_line n) 0 30

cash_count : length cash_lines ≡ 12
unfolding cash_lines
cash_count = length-map-range_with_len cash_line 0 12

holdings_count : length holding_lines ≡ 30
unfolding holding_lines
holdings_count = length-map-range_with_len holding_line 0 30

group_count_of : (n group : ℕ) → length (group_lines n group) ≡ group_size n + 1
unfolding group_lines
group_count_of n group =
    length-append (map (instruction_line n (hour_of group)) (range_with_len (group_size n * group) (group_size n))) (cycle_line (hour_of group) ∷ [])
    ∙ ap (λ k. k + 1) (length-map-range_with_len (instruction_line n (hour_of group)) (group_size n * group) (group_size n))

groups_count : (n : ℕ) → length (all_group_lines n) ≡ 4 * (group_size n + 1)
unfolding all_group_lines
groups_count n =
    let one = group_count_of n 0 in
    let two = group_count_of n 1 in
    let three = group_count_of n 2 in
    let four = group_count_of n 3 in
    omega (arith, one, two, three, four, length-append {A = List ℕ})

-- how many lines the file has
pub day_count : (n : ℕ) → length (day_lines n) ≡ 89 + 16 * n
unfolding day_lines
day_count n =
    let one = parts_count in
    let two = insts_count n in
    let three = cash_count in
    let four = holdings_count in
    let five = groups_count n in
    omega (arith, one, two, three, four, five, length-append {A = List ℕ})
