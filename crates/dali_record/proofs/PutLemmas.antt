-- What the writers of a tree put, in the words of its text.
use Rattle.std.proofs.Common.{◌≡◌, ℕ, true, ◌&&◌, List, [], ◌∷◌, ◌++◌, sym, ◌∙◌, ap, append_assoc}
use Rattle.std.specs.Prelude.{Result, Ok, Err, OnOk, IfOk, nat_lt, nat_le, length}
use Rattle.std.specs.List.{list_all}
use Rattle.std.proofs.lemmas.Bool.{and_parts}
use Rattle.dali_tree.specs.declared.tree.Tree.{Tree}
use Rattle.dali_tree.specs.declared.tree.End.{End}
use Rattle.dali_tree.specs.declared.tree.End.TheVariants as ends
use Rattle.dali_tree.specs.Fits.{fix_fits, lam_fits, tree_fits}
use Rattle.dali_tree.specs.Ends.{ends_fit}
use Rattle.dali_record.specs.Multipliers.{Rises, multiplier}
use Rattle.dali_record.specs.TreeText.{two_bytes, list_text, fix_text, lam_text, tree_text, ends_text}
use Rattle.dali_record.proofs.LamLemmas.{lam_rises}
use Rattle.dali_record.proofs.TreeEquations.{text_bound, text_short, text_branch, text_node, fits_bound, fits_branch, fits_node}

-- what follows on Ok
pub on_ok : {X E : Type 0} (r : Result X E) (P Q : Type 0) → OnOk r P → (P → Q) → OnOk r Q
on_ok (Ok x) P Q told step = step told
on_ok (Err e) P Q told step = tt

pub if_ok : {X E : Type 0} (r : Result X E) (P Q : X → Type 0) → IfOk r P → ((x : X) → P x → Q x) → IfOk r Q
if_ok (Ok x) P Q told step = step x told
if_ok (Err e) P Q told step = tt

pub bound_rises : (e : End) (lam : List (ℕ × ℕ)) → e ≡ ends.Bound lam → ends_fit 1024 4096 e ≡ true → Rises 0 4096 lam
bound_rises e lam is fits = lam_rises lam (sym (ap (ends_fit 1024 4096) is ∙ fits_bound 1024 4096 lam) ∙ fits)

pub record BranchFits (lam : List (ℕ × ℕ)) (inside outside : Tree) : Type 0 where
  pub rises : Rises 0 4096 lam
  pub inside_fits : tree_fits 1024 4096 inside ≡ true
  pub outside_fits : tree_fits 1024 4096 outside ≡ true

pub branch_fits : (e : End) (place : ℕ) (lam : List (ℕ × ℕ)) (inside outside : Tree) → e ≡ ends.Branch place lam inside outside → ends_fit 1024 4096 e ≡ true → BranchFits lam inside outside
branch_fits e place lam inside outside is fits =
    let own = sym (ap (ends_fit 1024 4096) is ∙ fits_branch 1024 4096 place lam inside outside) ∙ fits in
    let a = and_parts (nat_lt place 1024 && lam_fits 4096 lam && tree_fits 1024 4096 inside) (tree_fits 1024 4096 outside) own in
    let b = and_parts (nat_lt place 1024 && lam_fits 4096 lam) (tree_fits 1024 4096 inside) a.0 in
    let c = and_parts (nat_lt place 1024) (lam_fits 4096 lam) b.0 in
    record { rises = lam_rises lam c.1; inside_fits = b.1; outside_fits = a.1 }

pub bound_put : (e : End) (lam : List (ℕ × ℕ)) (above : ℕ → ℕ) (old a new : List ℕ) → e ≡ ends.Bound lam → a ≡ old ++ 4 ∷ [] → new ≡ a ++ lam_text above lam → new ≡ old ++ ends_text e above
bound_put e lam above old a new is one two =
    two ∙ ap (λ (x : List ℕ). x ++ lam_text above lam) one ∙ append_assoc old (4 ∷ []) (lam_text above lam)
    ∙ ap (λ (x : List ℕ). old ++ x) (sym (ap (λ (x : End). ends_text x above) is ∙ text_bound lam above))

pub short_put : (e : End) (line : ℕ) (above : ℕ → ℕ) (old a new : List ℕ) → e ≡ ends.Short line → a ≡ old ++ 5 ∷ [] → new ≡ a ++ two_bytes line → new ≡ old ++ ends_text e above
short_put e line above old a new is one two =
    two ∙ ap (λ (x : List ℕ). x ++ two_bytes line) one ∙ append_assoc old (5 ∷ []) (two_bytes line)
    ∙ ap (λ (x : List ℕ). old ++ x) (sym (ap (λ (x : End). ends_text x above) is ∙ text_short line above))

grouped : (old a b c d e : List ℕ) → ((((old ++ a) ++ b) ++ c) ++ d) ++ e ≡ old ++ (a ++ (b ++ (c ++ (d ++ e))))
grouped old a b c d e = simp append_assoc

pub branch_put : (e : End) (place : ℕ) (lam : List (ℕ × ℕ)) (inside outside : Tree) (above : ℕ → ℕ) (old a b c d new : List ℕ) → e ≡ ends.Branch place lam inside outside →
    a ≡ old ++ 6 ∷ [] → b ≡ a ++ two_bytes place → c ≡ b ++ lam_text above lam → d ≡ c ++ tree_text inside (multiplier lam) → new ≡ d ++ tree_text outside (multiplier lam) → new ≡ old ++ ends_text e above
branch_put e place lam inside outside above old a b c d new is one two three four five =
    five ∙ ap (λ (x : List ℕ). x ++ tree_text outside (multiplier lam)) (four ∙ ap (λ (x : List ℕ). x ++ tree_text inside (multiplier lam)) (three
    ∙ ap (λ (x : List ℕ). x ++ lam_text above lam) (two ∙ ap (λ (x : List ℕ). x ++ two_bytes place) one)))
    ∙ grouped old (6 ∷ []) (two_bytes place) (lam_text above lam) (tree_text inside (multiplier lam)) (tree_text outside (multiplier lam))
    ∙ ap (λ (x : List ℕ). old ++ x) (sym (ap (λ (x : End). ends_text x above) is ∙ text_branch place lam inside outside above))

pub node_put : (t : Tree) (above : ℕ → ℕ) (old a new : List ℕ) → a ≡ old ++ list_text fix_text t.fixes → new ≡ a ++ ends_text t.end above → new ≡ old ++ tree_text t above
node_put t above old a new one two =
    two ∙ ap (λ (x : List ℕ). x ++ ends_text t.end above) one ∙ append_assoc old (list_text fix_text t.fixes) (ends_text t.end above)
    ∙ ap (λ (x : List ℕ). old ++ x) (sym (text_node t.fixes t.end above))

pub node_end_fits : (t : Tree) → tree_fits 1024 4096 t ≡ true → ends_fit 1024 4096 t.end ≡ true
node_end_fits t fits =
    (and_parts (nat_le (length t.fixes) 1024 && list_all (fix_fits 1024 4096) t.fixes) (ends_fit 1024 4096 t.end) (sym (fits_node 1024 4096 t.fixes t.end) ∙ fits)).1
