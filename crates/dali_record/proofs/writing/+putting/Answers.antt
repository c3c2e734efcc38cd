use Rattle.std.proofs.Common.{◌∙◌, ap}
use Rattle.dali_tree.specs.Fits.{tree_fits}
use Rattle.dali_record.specs.Multipliers.{multiplier}
use Rattle.dali_record.proofs.PutLemmas.{on_ok, bound_rises, branch_fits, bound_put, short_put, branch_put, node_put, node_end_fits}
use Rattle.dali_record.proofs.writing.+putting.Goals as goal

pub put_end-returns-in_ok-push-in-Bound : goal.put_end-returns-in_ok-push-in-Bound
put_end-returns-in_ok-push-in-Bound t c =
    on_ok c.put_lam.result _ _ c.put_lam.ensures
    (λ put above fits.
    bound_put c.args.end.now c.in-Bound.lam (multiplier c.args.above.now) c.args.out.now c.push.new.self c.put_lam.new.out c.in-Bound.is c.in_ok-push-in-Bound.ensures.ok
    (rw c.as_slice.ensures at (put above (rw c.as_slice.ensures (bound_rises c.args.end.now c.in-Bound.lam c.in-Bound.is fits)))))

pub put_end-returns-in_ok-push-in-Short : goal.put_end-returns-in_ok-push-in-Short
put_end-returns-in_ok-push-in-Short t c =
    on_ok c.put_two.result _ _ c.put_two.ensures.ok
    (λ put above fits. short_put c.args.end.now c.in-Short.line (multiplier c.args.above.now) c.args.out.now c.push-in-Short.new.self c.put_two.new.out c.in-Short.is c.in_ok-push-in-Short.ensures.ok put)

pub put_end-returns-in_ok-put_tree-in-Branch : goal.put_end-returns-in_ok-put_tree-in-Branch
put_end-returns-in_ok-put_tree-in-Branch t c =
    on_ok c.put_tree-in-Branch.result _ _ c.put_tree-in-Branch.ensures
    (λ put above fits.
    let side = branch_fits c.args.end.now c.in-Branch.place c.in-Branch.lam c.in-Branch.inside c.in-Branch.outside c.in-Branch.is fits in
    branch_put c.args.end.now c.in-Branch.place c.in-Branch.lam c.in-Branch.inside c.in-Branch.outside (multiplier c.args.above.now)
    c.args.out.now c.push-in-Branch.new.self c.put_two-in-Branch.new.out c.put_lam-in-Branch.new.out c.put_tree.new.out c.put_tree-in-Branch.new.out c.in-Branch.is
    c.in_ok-push-in-Branch.ensures.ok c.in_ok-put_two-in-Branch.ensures.ok
    (rw c.as_slice-in-Branch.ensures at (c.in_ok-put_lam-in-Branch.ensures above (rw c.as_slice-in-Branch.ensures side.rises)))
    (rw (c.as_slice-in-Branch-2.ensures, c.get.ensures) at (c.in_ok-put_tree-in-Branch.ensures (rw c.as_slice-in-Branch-2.ensures side.rises) (ap (tree_fits 1024 4096) c.get.ensures ∙ side.inside_fits)))
    (rw (c.as_slice-in-Branch-3.ensures, c.get-in-Branch.ensures) at (put (rw c.as_slice-in-Branch-3.ensures side.rises) (ap (tree_fits 1024 4096) c.get-in-Branch.ensures ∙ side.outside_fits))))

pub put_tree-returns : goal.put_tree-returns
put_tree-returns t c =
    on_ok c.put_end.result _ _ c.put_end.ensures
    (λ put above fits. node_put c.args.tree.now (multiplier c.args.above.now) c.args.out.now c.put_fixes.new.out c.put_end.new.out
    (rw c.as_slice.ensures at c.in_ok-put_fixes.ensures) (put above (node_end_fits c.args.tree.now fits)))
