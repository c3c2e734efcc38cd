-- What is read as an entry is spelled so.
use Rattle.std.proofs.Common.{◌≡◌, inl, inr, ℕ, zero, suc, ◌+◌, ◌≤◌, true, cond, eqb, ltb, List, [], ◌∷◌, ◌++◌, length, take, drop, Option, Some, None, refl, sym, ap, subst, append_assoc, arith}
use Rattle.std.specs.Prelude.{IfSome}
use Rattle.std.specs.List.{flat_map}
use Rattle.std.specs.Int.{w16, w64}
use Rattle.std.proofs.lemmas.Bool.{eqb-true, ltb-false}
use Rattle.std.proofs.lemmas.Option.{cond_some}
use Rattle.std.proofs.lemmas.List.{length-take, take-append-drop, get_or-drop}
use Rattle.std.proofs.lemmas.List.Concat.{flat_map-cons}
use Rattle.std.proofs.lemmas.List.Sums.{sum_by-cons}
use Rattle.dali_line.specs.Line.{is_line}
use Rattle.dali_tree.specs.declared.choice.Part.{Part}
use Rattle.dali_tree.specs.declared.choice.Choice.{Choice}
use Rattle.dali_tree.specs.declared.tree.Tree.{Tree}
use Rattle.dali_tree.specs.Tree.{branch_count}
use Rattle.dali_entry.specs.EntryRecord.{EntryRecord}
use Rattle.dali_record.specs.Multipliers.{all_zero}
use Rattle.dali_record.specs.TreeText.{two_bytes, eight_bytes, list_text, places_text, tree_text}
use Rattle.dali_record.specs.RecordText.{part_text, choice_text, option_text, record_text}
use Rattle.dali_record.specs.IsRecord.{branches_of}
use Rattle.dali_record.specs.Reading.{◌>>=◌, number_at, list_at, place_at, tree_at}
use Rattle.dali_record.specs.EntryReading.{part_at, parts_at, choice_at, option_at, line_at, entry_at}
use Rattle.dali_record.proofs.Fields.{IsBytes, IsBytes-rest, bind_some, chosen, some_is, Takes, Takes-then, Takes-behind, TakesEach, two_takes, eight_takes, list_takes}
use Rattle.dali_record.proofs.TreeTakes.{Took, tree_reads}

place_takes : TakesEach two_bytes place_at
unfolding place_at
place_takes = record { takes = (λ bytes x fits e. (two_takes bytes x fits e).0) }

-- what a reader of parts took, where so many branches were left
record TookPart (left : ℕ) (bytes : List ℕ) (x : Part × ℕ × List ℕ) : Type 0 where
  front : Takes bytes (part_text x.0) x.2
  spent : branch_count x.0.tree + x.1 ≡ left

record TookParts (n left : ℕ) (bytes : List ℕ) (x : List Part × ℕ × List ℕ) : Type 0 where
  front : Takes bytes (flat_map part_text x.0) x.2
  spent : branches_of x.0 + x.1 ≡ left
  count : length x.0 ≡ n

part_made : (left behind : ℕ) (bytes b1 b2 b3 : List ℕ) (members : List ℕ) (bound : ℕ) (tree : Tree) → Takes bytes (places_text members) b1 → Takes b1 (eight_bytes bound) b2 →
    Took (λ (t : Tree) above. tree_text t above) branch_count left all_zero b2 (tree, behind, b3) → TookPart left bytes (record { members = members; bound = bound; tree = tree }, behind, b3)
part_made left behind bytes b1 b2 b3 members bound tree m b t = record {
  front = Takes-then bytes (places_text members) b1 (eight_bytes bound ++ tree_text tree all_zero) b3 m (Takes-then b1 (eight_bytes bound) b2 (tree_text tree all_zero) b3 b t.front);
  spent = t.spent;
}

part_took : (left : ℕ) (bytes : List ℕ) (x : Part × ℕ × List ℕ) → IsBytes bytes → part_at left bytes ≡ Some x → TookPart left bytes x
unfolding part_at
part_took left bytes x fits e =
    let a = bind_some (list_at place_at bytes) (λ members. number_at w64 members.1 >>= λ bound. tree_at 1024 left all_zero bound.1 >>= λ tree.
    Some (record { members = members.0; bound = bound.0; tree = tree.0 }, tree.1, tree.2)) x e in
    let b = bind_some (number_at w64 a.0.1) (λ bound. tree_at 1024 left all_zero bound.1 >>= λ tree. Some (record { members = a.0.0; bound = bound.0; tree = tree.0 }, tree.1, tree.2)) x a.2 in
    let c = bind_some (tree_at 1024 left all_zero b.0.1) (λ tree. Some (record { members = a.0.0; bound = b.0.0; tree = tree.0 }, tree.1, tree.2)) x b.2 in
    let members = list_takes two_bytes place_at place_takes bytes a.0 fits a.1 in
    let bound = eight_takes a.0.1 b.0 members.0.rest_fits b.1 in
    let tree = (tree_reads 1024).took left all_zero b.0.1 c.0 bound.0.rest_fits c.1 in
    subst (TookPart left bytes) (some_is (record { members = a.0.0; bound = b.0.0; tree = c.0.0 }, c.0.1, c.0.2) x c.2)
    (part_made left c.0.1 bytes a.0.1 b.0.1 c.0.2 a.0.0 b.0.0 c.0.0 members.0 bound.0 tree)

parts_made : (n left between behind : ℕ) (bytes b1 b2 : List ℕ) (part : Part) (parts : List Part) → TookPart left bytes (part, between, b1) → TookParts n between b1 (parts, behind, b2) →
    TookParts (suc n) left bytes (part ∷ parts, behind, b2)
parts_made n left between behind bytes b1 b2 part parts one more = record {
  front = rw flat_map-cons (Takes-then bytes (part_text part) b1 (flat_map part_text parts) b2 one.front more.front);
  spent = omega (arith, one.spent, more.spent, sum_by-cons (λ (p : Part). branch_count p.tree) part parts);
  count = ap suc more.count;
}

parts_took : (n left : ℕ) (bytes : List ℕ) (x : List Part × ℕ × List ℕ) → IsBytes bytes → parts_at n left bytes ≡ Some x → TookParts n left bytes x
unfolding parts_at
parts_took zero left bytes x fits e =
    subst (TookParts 0 left bytes) (some_is ([], left, bytes) x e) (record { front = record { parts = refl; rest_fits = fits }; spent = omega arith; count = refl })
parts_took (suc n) left bytes x fits e =
    let a = bind_some (part_at left bytes) (λ first. parts_at n first.1 first.2 >>= λ others. Some (first.0 ∷ others.0, others.1, others.2)) x e in
    let b = bind_some (parts_at n a.0.1 a.0.2) (λ others. Some (a.0.0 ∷ others.0, others.1, others.2)) x a.2 in
    let one = part_took left bytes a.0 fits a.1 in
    let more = parts_took n a.0.1 a.0.2 b.0 one.front.rest_fits b.1 in
    subst (TookParts (suc n) left bytes) (some_is (a.0.0 ∷ b.0.0, b.0.1, b.0.2) x b.2)
    (parts_made n left a.0.1 b.0.1 bytes a.0.2 b.0.2 a.0.0 b.0.0 one more)

-- a choice that was read is spelled so, and has at most 4,096 branches
record TookChoice (bytes : List ℕ) (x : Choice × List ℕ) : Type 0 where
  front : Takes bytes (choice_text x.0) x.1
  branches : branches_of x.0.parts ≤ 4096

choice_made : (behind n : ℕ) (bytes b1 b2 b3 : List ℕ) (places : List ℕ) (parts : List Part) → Takes bytes (places_text places) b1 → Takes b1 (two_bytes n) b2 →
    TookParts n 4096 b2 (parts, behind, b3) → TookChoice bytes (record { places = places; parts = parts }, b3)
choice_made behind n bytes b1 b2 b3 places parts p k rest =
    let count : Takes b1 (two_bytes (length parts)) b2 = subst (λ (m : ℕ). Takes b1 (two_bytes m) b2) (sym rest.count) k in
    record {
      front = Takes-then bytes (places_text places) b1 (list_text part_text parts) b3 p (Takes-then b1 (two_bytes (length parts)) b2 (flat_map part_text parts) b3 count rest.front);
      branches = omega (arith, rest.spent);
    }

choice_took : (bytes : List ℕ) (x : Choice × List ℕ) → IsBytes bytes → choice_at bytes ≡ Some x → TookChoice bytes x
unfolding choice_at
choice_took bytes x fits e =
    let a = bind_some (list_at place_at bytes) (λ places. number_at w16 places.1 >>= λ n. parts_at n.0 4096 n.1 >>= λ parts. Some (record { places = places.0; parts = parts.0 }, parts.2)) x e in
    let b = bind_some (number_at w16 a.0.1) (λ n. parts_at n.0 4096 n.1 >>= λ parts. Some (record { places = a.0.0; parts = parts.0 }, parts.2)) x a.2 in
    let c = bind_some (parts_at b.0.0 4096 b.0.1) (λ parts. Some (record { places = a.0.0; parts = parts.0 }, parts.2)) x b.2 in
    let places = list_takes two_bytes place_at place_takes bytes a.0 fits a.1 in
    let n = two_takes a.0.1 b.0 places.0.rest_fits b.1 in
    let parts = parts_took b.0.0 4096 b.0.1 c.0 n.0.rest_fits c.1 in
    subst (TookChoice bytes) (some_is (record { places = a.0.0; parts = c.0.0 }, c.0.2) x c.2)
    (choice_made c.0.1 b.0.0 bytes a.0.1 b.0.1 c.0.2 a.0.0 c.0.0 places.0 n.0 parts)

record TookOption (bytes : List ℕ) (x : Option Choice × List ℕ) : Type 0 where
  front : Takes bytes (option_text x.0) x.1
  branches : IfSome x.0 (λ choice. branches_of choice.parts ≤ 4096)

option_took : (bytes : List ℕ) (x : Option Choice × List ℕ) → IsBytes bytes → option_at bytes ≡ Some x → TookOption bytes x
unfolding option_at
option_took [] x fits e = absurd cc
option_took (b ∷ bytes) x fits e =
    let under = IsBytes-rest b bytes fits in
    let Goal : ℕ → Type 0 = λ k. TookOption (k ∷ bytes) x in
    elim (chosen (eqb b 0) (Some (None, bytes)) (cond (eqb b 1) (choice_at bytes >>= λ choice. Some (Some choice.0, choice.1)) None) (Some x) e) [
      | inl none ↦
          subst Goal (sym (eqb-true b 0 none.0))
          (subst (TookOption (0 ∷ bytes)) (some_is (None, bytes) x none.1) (record { front = record { parts = refl; rest_fits = under }; branches = tt }))
      | inr other ↦
          elim (chosen (eqb b 1) (choice_at bytes >>= λ choice. Some (Some choice.0, choice.1)) None (Some x) other.1) [
            | inl one ↦
                let a = bind_some (choice_at bytes) (λ choice. Some (Some choice.0, choice.1)) x one.1 in
                let t = choice_took bytes a.0 under a.1 in
                subst Goal (sym (eqb-true b 1 one.0))
                (subst (TookOption (1 ∷ bytes)) (some_is (Some a.0.0, a.0.1) x a.2) (record { front = Takes-behind 1 bytes (choice_text a.0.0) a.0.1 t.front; branches = t.branches }))
            | inr more ↦ absurd (let no = more.1 in cc)
          ]
    ]

line_made : (bytes b1 : List ℕ) (n : ℕ) (x : List ℕ × List ℕ) → Takes bytes (two_bytes n) b1 → n ≤ length b1 →
    cond (is_line (take n b1)) (Some (take n b1, drop n b1)) None ≡ Some x → Takes bytes (two_bytes (length x.0) ++ x.0) x.1 × (is_line x.0 ≡ true)
line_made bytes b1 n x t long e =
    let read = cond_some (is_line (take n b1)) (take n b1, drop n b1) x e in
    let len : length (take n b1) ≡ n = omega (arith, length-take n b1, long) in
    let head : Takes bytes (two_bytes (length (take n b1))) b1 = subst (λ (k : ℕ). Takes bytes (two_bytes k) b1) (sym len) t in
    let rest : Takes b1 (take n b1) (drop n b1) = record { parts = sym (take-append-drop n b1); rest_fits = (λ i. rw get_or-drop (t.rest_fits (n + i))) } in
    subst (λ (y : List ℕ × List ℕ). Takes bytes (two_bytes (length y.0) ++ y.0) y.1 × (is_line y.0 ≡ true)) read.1
    (Takes-then bytes (two_bytes (length (take n b1))) b1 (take n b1) (drop n b1) head rest, read.0)

line_took : (bytes : List ℕ) (x : List ℕ × List ℕ) → IsBytes bytes → line_at bytes ≡ Some x → Takes bytes (two_bytes (length x.0) ++ x.0) x.1 × (is_line x.0 ≡ true)
unfolding line_at
line_took bytes x fits e =
    let a = bind_some (number_at w16 bytes) (λ n. cond (ltb (length n.1) n.0) None (cond (is_line (take n.0 n.1)) (Some (take n.0 n.1, drop n.0 n.1)) None)) x e in
    let n = two_takes bytes a.0 fits a.1 in
    elim (chosen (ltb (length a.0.1) a.0.0) None (cond (is_line (take a.0.0 a.0.1)) (Some (take a.0.0 a.0.1, drop a.0.0 a.0.1)) None) (Some x) a.2) [
      | inl short ↦ absurd (let no = short.1 in cc)
      | inr long ↦ line_made bytes a.0.1 a.0.0 x n.0 (ltb-false _ _ long.0) long.1
    ]

-- an entry that was read is spelled so, has a line, and has at most 4,096 branches
pub record TookEntry (bytes : List ℕ) (x : EntryRecord × List ℕ) : Type 0 where
  pub front : Takes bytes (record_text x.0) x.1
  pub line : is_line x.0.line ≡ true
  pub branches : IfSome x.0.choice (λ choice. branches_of choice.parts ≤ 4096)

entry_made : (b : ℕ) (bytes b1 b2 : List ℕ) (line : List ℕ) (choice : Option Choice) → Takes bytes (two_bytes (length line) ++ line) b1 → is_line line ≡ true → TookOption b1 (choice, b2) →
    TookEntry (b ∷ bytes) (record { edition = b; line = line; choice = choice }, b2)
entry_made b bytes b1 b2 line choice l told c =
    let both = Takes-then bytes (two_bytes (length line) ++ line) b1 (option_text choice) b2 l c.front in
    record {
      front = Takes-behind b bytes (two_bytes (length line) ++ (line ++ option_text choice)) b2
          (subst (λ (text : List ℕ). Takes bytes text b2) (append_assoc (two_bytes (length line)) line (option_text choice)) both);
      line = told;
      branches = c.branches;
    }

pub entry_took : (bytes : List ℕ) (x : EntryRecord × List ℕ) → IsBytes bytes → entry_at bytes ≡ Some x → TookEntry bytes x
unfolding entry_at
entry_took [] x fits e = absurd cc
entry_took (b ∷ bytes) x fits e =
    let under = IsBytes-rest b bytes fits in
    let a = bind_some (line_at bytes) (λ line. option_at line.1 >>= λ choice. Some (record { edition = b; line = line.0; choice = choice.0 }, choice.1)) x e in
    let c = bind_some (option_at a.0.1) (λ choice. Some (record { edition = b; line = a.0.0; choice = choice.0 }, choice.1)) x a.2 in
    let line = line_took bytes a.0 under a.1 in
    let choice = option_took a.0.1 c.0 line.0.rest_fits c.1 in
    subst (TookEntry (b ∷ bytes)) (some_is (record { edition = b; line = a.0.0; choice = c.0.0 }, c.0.1) x c.2)
    (entry_made b bytes a.0.1 c.0.1 a.0.0 c.0.0 line.0 line.1 choice)
