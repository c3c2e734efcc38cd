use Rattle.std.proofs.Common.{◌≡◌, ◌∙◌, ◌+◌, ◌-◌, ◌<◌, ℕ, false, List, [], ◌++◌, ◌∷◌, length, take, get_or, ap, sym, subst, arith}
use Rattle.std.specs.List.{Contains}
use Rattle.std.proofs.lemmas.List.{take_all, get_or_default}
use Rattle.std.proofs.lemmas.List.Sums.{sum_by_push}
use Rattle.dali_tree.specs.declared.choice.Part.{Part}
use Rattle.dali_tree.specs.Tree.{branch_count}
use Rattle.dali_check.specs.Parts.{branchings_of}
use Rattle.dali_parts.specs.Finest.{IsClass}
use Rattle.dali_parts.specs.Joined.{IsSearched, AreSearched}
use Rattle.dali_parts.proofs.Steps.{searched_more, free_more}
use Rattle.dali_parts.proofs.solving.search_all.Goals as goal

pub search_one-requires-clause-budget : goal.search_one-requires-clause-budget
search_one-requires-clause-budget c = omega (arith, c.loop-at.invariant.left, c.requires.budget)

pub search_one-requires-clause-members : goal.search_one-requires-clause-members
search_one-requires-clause-members c = subst (IsClass c.args.problem.now) (sym c.index-lists-at.is)
    (c.requires.finest.each c.loop-at.at c.index-lists-at.result (omega (arith, c.loop-at-test.true)))

pub search_one-requires-clause-size : goal.search_one-requires-clause-size
search_one-requires-clause-size c = c.loop-at.invariant.size ∙ c.requires.size

pub search_one-requires-clause-free : goal.search_one-requires-clause-free
search_one-requires-clause-free c j there =
    let below : c.loop-at.at < length c.args.lists.now = omega (arith, c.loop-at-test.true) in
    c.loop-at.invariant.free.free c.loop-at.at j (omega arith) below
    (subst (λ (xs : List ℕ). Contains xs j) (c.index-lists-at.is ∙ get_or_default c.args.lists.now c.loop-at.at c.index-lists-at.result [] below) there)

pub overflow_sub-left : goal.overflow_sub-left
overflow_sub-left c = omega (arith, c.branchings-spent.ensures, c.in_ok-part.ensures.within)

pub loop-at-preserved : goal.loop-at-preserved
loop-at-preserved c =
    let below : c.loop-at.at < length c.args.lists.now = omega (arith, c.loop-at-test.true) in
    let is : c.index-lists-at.result ≡ get_or c.args.lists.now c.loop-at.at [] = c.index-lists-at.is ∙ get_or_default c.args.lists.now c.loop-at.at c.index-lists-at.result [] below in
    let others : (j : ℕ) → ¬ (Contains (get_or c.args.lists.now c.loop-at.at []) j) → get_or c.search_one.new.chosen j false ≡ get_or c.loop-at.chosen j false =
    λ j out. c.search_one.ensures.others j (λ there. out (subst (λ (xs : List ℕ). Contains xs j) is there)) in
    let found : IsSearched c.args.problem.now c.loop-at.left (get_or c.args.lists.now c.loop-at.at []) c.search_one.new.chosen c.in_ok-part.part =
    subst (λ (xs : List ℕ). IsSearched c.args.problem.now c.loop-at.left xs c.search_one.new.chosen c.in_ok-part.part) is c.in_ok-part.ensures.searched in
    record {
      searched = subst (λ (ps : List Part). AreSearched c.args.problem.now c.args.budget (take (c.loop-at.at + 1) c.args.lists.now) c.search_one.new.chosen ps) (sym c.in_ok-push.ensures.items)
          (searched_more c.args.problem.now c.args.budget c.loop-at.left c.args.lists.now c.loop-at.at c.loop-at.chosen c.search_one.new.chosen c.loop-at.parts.items c.in_ok-part.part
          c.requires.finest below c.loop-at.invariant.left c.loop-at.invariant.searched found c.in_ok-part.ensures.within others);
      left = omega (
        arith,
        c.loop-at.invariant.left,
        c.branchings-spent.ensures,
        c.in_ok-part.ensures.within,
        c.requires.budget,
        ap branchings_of c.in_ok-push.ensures.items,
        sum_by_push (λ (x : Part). branch_count x.tree) c.loop-at.parts.items c.in_ok-part.part,
      );
      free = free_more c.args.problem.now c.args.lists.now c.loop-at.at c.loop-at.chosen c.search_one.new.chosen c.requires.finest below c.loop-at.invariant.free others;
      size = c.search_one.ensures.size ∙ c.loop-at.invariant.size;
    }
