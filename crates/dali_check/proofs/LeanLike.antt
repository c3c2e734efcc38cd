use Rattle.std.proofs.Common.{◌≡◌, ℕ, ◌+◌, ◌*◌, pos, Bool, ◌&&◌, ◌||◌, not, ltb, leb, List, length, set, if◌then◌else◌, refl, ap, ◌∙◌}
use Rattle.std.specs.Int.Signed.{le_z}
use Rattle.dali_problem.specs.declared.mark.Mark.{Mark}
use Rattle.dali_problem.specs.declared.mark.Mark.TheVariants.{Chosen, Left}
use Rattle.dali_problem.specs.Clearing.{Clearing}
use Rattle.dali_problem.specs.Partial.{mark, is_undecided}
use Rattle.dali_problem.specs.Rules.{is_barred, is_needed, is_safe, all_below}
use Rattle.dali_tree.specs.declared.tree.Tree.{Tree}
use Rattle.dali_lagrange.specs.Multipliers.{multiplier}
use Rattle.dali_lagrange.specs.Settled.{is_settled}
use Rattle.dali_check.specs.Proves.{closes}
use Rattle.dali_check.specs.Lean.{reaches, is_reduced, is_open, nearness, is_nearest, is_worked, is_finished, is_led, is_tight, lean_end, lean_tree, tight_end, tight_tree}
use Rattle.dali_check.proofs.Alike.{Like, like_set, sum_like, barred_like, needed_like, safe_like, all_below_same, both}
use Rattle.dali_check.proofs.AlikeTrees.{tree_like, closes_like}
use Rattle.dali_check.proofs.Stands.{settled_like}

-- each test that makes a tree lean tells the same of partial choices that are alike
reaches_like : (p : Clearing) (u : ℕ) (lam : List (ℕ × ℕ)) (f g : List Mark) → Like f g → reaches p u lam f ≡ reaches p u lam g
unfolding reaches
reaches_like p u lam f g like = ap (le_z (pos (4096 * u))) (sum_like p f g (multiplier lam) like)

reduced_like : (p : Clearing) (f g : List Mark) → Like f g → is_reduced p f ≡ is_reduced p g
unfolding is_reduced
reduced_like p f g like =
    all_below_same (λ j. not (is_safe p f j) && all_below (λ l. not (is_barred p f j l) && not (is_needed p f j l)) (length p.lines))
    (λ j. not (is_safe p g j) && all_below (λ l. not (is_barred p g j l) && not (is_needed p g j l)) (length p.lines)) (length p.items)
    (λ j below. both (not (is_safe p f j)) (not (is_safe p g j))
    (all_below (λ l. not (is_barred p f j l) && not (is_needed p f j l)) (length p.lines))
    (all_below (λ l. not (is_barred p g j l) && not (is_needed p g j l)) (length p.lines))
    (ap not (safe_like p f g j like))
    (all_below_same (λ l. not (is_barred p f j l) && not (is_needed p f j l)) (λ l. not (is_barred p g j l) && not (is_needed p g j l)) (length p.lines)
    (λ l under. both (not (is_barred p f j l)) (not (is_barred p g j l)) (not (is_needed p f j l)) (not (is_needed p g j l))
    (ap not (barred_like p f g j l like)) (ap not (needed_like p f g j l like)))))

open_like : (p : Clearing) (f g : List Mark) → Like f g → is_open p f ≡ is_open p g
unfolding is_open
open_like p f g like = ap not
    (all_below_same (λ j. not (is_undecided (mark f j))) (λ j. not (is_undecided (mark g j))) (length p.items)
    (λ j below. ap not (like.undecided j)))

nearest_like : (p : Clearing) (lam : List (ℕ × ℕ)) (f g : List Mark) (place : ℕ) → Like f g → is_nearest p lam f place ≡ is_nearest p lam g place
unfolding is_nearest
nearest_like p lam f g place like =
    let than : ℕ → Bool = λ (j : ℕ). if ltb j place then ltb (nearness p lam place) (nearness p lam j) else leb (nearness p lam place) (nearness p lam j) in
    both (is_undecided (mark f place)) (is_undecided (mark g place))
    (all_below (λ j. not (is_undecided (mark f j)) || than j) (length p.items)) (all_below (λ j. not (is_undecided (mark g j)) || than j) (length p.items))
    (like.undecided place)
    (all_below_same (λ j. not (is_undecided (mark f j)) || than j) (λ j. not (is_undecided (mark g j)) || than j) (length p.items)
    (λ j below. ap (λ b. not b || than j) (like.undecided j)))

worked_like : (p : Clearing) (lam : List (ℕ × ℕ)) (f g : List Mark) → Like f g → is_worked p lam f ≡ is_worked p lam g
worked_like p lam f g like = both (is_settled p f (multiplier lam)) (is_settled p g (multiplier lam)) (is_reduced p f) (is_reduced p g)
    (settled_like p f g (multiplier lam) like) (reduced_like p f g like)

finished_like : (p : Clearing) (v : ℕ) (lam : List (ℕ × ℕ)) (f g : List Mark) → Like f g → is_finished p v lam f ≡ is_finished p v lam g
unfolding is_finished
finished_like p v lam f g like =
    ap (λ b. not b || (is_worked p lam f && is_open p f)) (reaches_like p (v + 1) lam f g like)
    ∙ ap (λ b. not (reaches p (v + 1) lam g) || b)
    (both (is_worked p lam f) (is_worked p lam g) (is_open p f) (is_open p g) (worked_like p lam f g like) (open_like p f g like))

led_like : (p : Clearing) (u : ℕ) (lam : List (ℕ × ℕ)) (f g : List Mark) (place : ℕ) → Like f g → is_led p u lam f place ≡ is_led p u lam g place
unfolding is_led
led_like p u lam f g place like =
    both (reaches p u lam f && is_worked p lam f) (reaches p u lam g && is_worked p lam g) (is_nearest p lam f place) (is_nearest p lam g place)
    (both (reaches p u lam f) (reaches p u lam g) (is_worked p lam f) (is_worked p lam g) (reaches_like p u lam f g like) (worked_like p lam f g like))
    (nearest_like p lam f g place like)

tightness_like : (p : Clearing) (u : ℕ) (lam : List (ℕ × ℕ)) (f g : List Mark) → Like f g → is_tight p u lam f ≡ is_tight p u lam g
unfolding is_tight
tightness_like p u lam f g like = both (reaches p u lam f) (reaches p u lam g) (closes p u lam f) (closes p u lam g)
    (reaches_like p u lam f g like) (closes_like p u lam f g like)

-- so does a lean tree
pub lean_like : (p : Clearing) (u v : ℕ) (tree : Tree) (f g : List Mark) → Like f g → lean_tree p u v tree f ≡ lean_tree p u v tree g
lean_like p u v tree = (tree_like p (lean_end p u v) (record {
  bound = (λ lam. record { same = finished_like p v lam });
  short = (λ line. record { same = (λ f g like. refl) });
  branch = (λ place lam inside outside in_like out_like. record {
    same = (λ f g like. both (is_led p u lam f place && inside (set f place Chosen)) (is_led p u lam g place && inside (set g place Chosen))
        (outside (set f place Left)) (outside (set g place Left))
        (both (is_led p u lam f place) (is_led p u lam g place) (inside (set f place Chosen)) (inside (set g place Chosen))
        (led_like p u lam f g place like) (in_like.same (set f place Chosen) (set g place Chosen) (like_set f g place Chosen like)))
        (out_like.same (set f place Left) (set g place Left) (like_set f g place Left like)));
  });
}) tree).same

-- and a tight one
pub tight_like : (p : Clearing) (u : ℕ) (tree : Tree) (f g : List Mark) → Like f g → tight_tree p u tree f ≡ tight_tree p u tree g
tight_like p u tree = (tree_like p (tight_end p u) (record {
  bound = (λ lam. record { same = tightness_like p u lam });
  short = (λ line. record { same = (λ f g like. refl) });
  branch = (λ place lam inside outside in_like out_like. record {
    same = (λ f g like.
        ap (λ b. b || outside (set f place Left)) (in_like.same (set f place Chosen) (set g place Chosen) (like_set f g place Chosen like))
        ∙ ap (λ b. inside (set g place Chosen) || b) (out_like.same (set f place Left) (set g place Left) (like_set f g place Left like)));
  });
}) tree).same
