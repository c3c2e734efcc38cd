use Rattle.std.proofs.Common.{◌≡◌, ℕ, ◌+◌, ◌<◌, Bool, true, false, cond, not, ◌&&◌, ◌||◌, List, [], ◌∷◌, length, take, get_or, refl, sym, ap, ◌∙◌, arith, true≢false}
use Rattle.std.specs.Prelude.{nat_lt, nat_le, nat_eq}
use Rattle.std.specs.Ordering.{nat_cmp, is_gt}
use Rattle.std.specs.declared.cmp.Ordering.TheVariants.{Less, Equal, Greater}
use Rattle.std.specs.List.{list_any}
use Rattle.std.proofs.lemmas.Bool.Decides.{nat_tests}
use Rattle.std.proofs.lemmas.List.Folds.{list_any-append, list_any_more}
use Rattle.dali_base.specs.NameList.{NameList, knows, with_name}
use Rattle.dali_base.specs.Readers.{same_bytes}
use Rattle.dali_account.proofs.SumLemmas.{same_name_is}
use Rattle.dali_queue.specs.declared.cutoffs.Cutoffs.{Cutoffs}
use Rattle.dali_queue.specs.declared.entries.Entry.{Entry}
use Rattle.dali_queue.specs.Cutoffs.{cutoff_of}
use Rattle.dali_queue.specs.Groups.{is_eligible}
use Rattle.dali_queue.specs.Eligible.{queue_with}
use Rattle.dali_queue.proofs.NameLemmas.{with_known, with_new}

or_false : (b : Bool) → (b || false) ≡ b
or_false true = refl
or_false false = refl

-- the test of the code
pub gt_is : (a b : ℕ) → is_gt (nat_cmp a b) ≡ nat_lt b a
gt_is a b = by (nat_lt a b) (nat_eq a b) (nat_lt b a) (grind (arith, nat_tests)) (grind (arith, nat_tests)) (grind (arith, nat_tests))
  where
    by : (l e g : Bool) → (l ≡ true → g ≡ false) → (l ≡ false → e ≡ true → g ≡ false) → (l ≡ false → e ≡ false → g ≡ true) → is_gt (cond l Less (cond e Equal Greater)) ≡ g
    by true e g one two three = sym (one refl)
    by false true g one two three = sym (two refl refl)
    by false false g one two three = sym (three refl refl)

-- a name is known once it was added
pub knows_with : (n : NameList) (name x : List ℕ) → knows (with_name n name).names x ≡ (knows n.names x || same_bytes x name)
knows_with n name x = by (knows n.names name) refl
  where
    told : (b : Bool) → same_bytes x name ≡ b → knows n.names name ≡ true → knows n.names x ≡ (knows n.names x || b)
    told true same known = let there : knows n.names x ≡ true = ap (knows n.names) (same_name_is x name same) ∙ known in there ∙ sym (ap (λ b. b || true) there)
    told false same known = sym (or_false (knows n.names x))

    by : (b : Bool) → knows n.names name ≡ b → knows (with_name n name).names x ≡ (knows n.names x || same_bytes x name)
    by true e = ap (λ ns. knows ns x) (with_known n name e) ∙ told (same_bytes x name) refl e
    by false e = ap (λ ns. knows ns x) (with_new n name e) ∙ list_any-append (same_bytes x) n.names (name ∷ []) ∙ ap (λ b. knows n.names x || b) (or_false (same_bytes x name))

-- whether an entry of the group is past the cut-off of its kind
abbrev pub is_late_in : Cutoffs → ℕ → List ℕ → Entry → Bool
is_late_in cutoffs moment group e = same_bytes group e.group && nat_lt (cutoff_of cutoffs e.item.kind) moment

module _ (cutoffs : Cutoffs) (moment : ℕ) (es : List Entry) (i : ℕ) (d : Entry) (within : i < length es) (group : List ℕ) where
  pub late_yes : (n : NameList) → knows n.names group ≡ list_any (is_late_in cutoffs moment group) (take i es) → nat_lt (cutoff_of cutoffs (get_or es i d).item.kind) moment ≡ true →
      knows (with_name n (get_or es i d).group).names group ≡ list_any (is_late_in cutoffs moment group) (take (i + 1) es)
  late_yes n so_far late =
      knows_with n (get_or es i d).group group ∙ ap (λ b. b || same_bytes group (get_or es i d).group) so_far
      ∙ ap (λ b. list_any (is_late_in cutoffs moment group) (take i es) || b) (sym (and_true (same_bytes group (get_or es i d).group)) ∙ ap (λ b. same_bytes group (get_or es i d).group && b) (sym late))
      ∙ sym (list_any_more (is_late_in cutoffs moment group) es i d within)
    where
      and_true : (b : Bool) → (b && true) ≡ b
      and_true true = refl
      and_true false = refl

  pub late_no : (n : NameList) → knows n.names group ≡ list_any (is_late_in cutoffs moment group) (take i es) → nat_lt (cutoff_of cutoffs (get_or es i d).item.kind) moment ≡ false →
      knows n.names group ≡ list_any (is_late_in cutoffs moment group) (take (i + 1) es)
  late_no n so_far early =
      so_far ∙ sym (or_false (list_any (is_late_in cutoffs moment group) (take i es)))
      ∙ ap (λ b. list_any (is_late_in cutoffs moment group) (take i es) || b) (sym (and_none (same_bytes group (get_or es i d).group)) ∙ ap (λ b. same_bytes group (get_or es i d).group && b) (sym early))
      ∙ sym (list_any_more (is_late_in cutoffs moment group) es i d within)
    where
      and_none : (b : Bool) → (b && false) ≡ false
      and_none true = refl
      and_none false = refl

-- a group is eligible where none is past
pub late_are : (cutoffs : Cutoffs) (moment : ℕ) (group : List ℕ) (es : List Entry) → list_any (is_late_in cutoffs moment group) es ≡ not (is_eligible (queue_with es cutoffs) moment group)
late_are cutoffs moment group [] = refl
late_are cutoffs moment group (e ∷ es) = by (same_bytes group e.group) (nat_lt (cutoff_of cutoffs e.item.kind) moment) (nat_le moment (cutoff_of cutoffs e.item.kind)) (grind (arith, nat_tests)) (late_are cutoffs moment group es)
  where
    by : (a b c : Bool) → b ≡ not c → list_any (is_late_in cutoffs moment group) es ≡ not (is_eligible (queue_with es cutoffs) moment group) →
        ((a && b) || list_any (is_late_in cutoffs moment group) es) ≡ not ((not a || c) && is_eligible (queue_with es cutoffs) moment group)
    by false b c same rest = rest
    by true true true same rest = absurd (true≢false same)
    by true true false same rest = refl
    by true false true same rest = rest
    by true false false same rest = absurd (true≢false (sym same))
