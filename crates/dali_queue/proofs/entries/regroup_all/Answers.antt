use Rattle.std.proofs.Common.{◌≡◌, ◌∙◌, ◌++◌, ◌+◌, suc, map, take, drop, Some, ap, sym, add-one}
use Rattle.std.specs.Prelude.{slice_get}
use Rattle.std.specs.Map.{values_of}
use Rattle.indexmap.specs.IndexMap.{spare}
use Rattle.indexmap.specs.Layout.{set_value_at}
use Rattle.dali_base.specs.Readers.{same_bytes}
use Rattle.dali_queue.specs.declared.entries.Entry.{Entry}
use Rattle.dali_queue.specs.EntryList.{regrouped_entry}
use Rattle.dali_queue.proofs.ChangeLemmas.{regrouped_yes, regrouped_no}
use Rattle.dali_queue.proofs.entries.regroup_all.Goals.{then-eq, else-eq}
use Rattle.dali_queue.proofs.entries.regroup_all.Goals as goal

pub loop-place-preserved : goal.loop-place-preserved
loop-place-preserved c =
    let es = c.args.entries.now.entries in
    let k = c.loop-place.place in
    let next : map (regrouped_entry c.args.from c.args.to) (take (suc k) es) ++ drop (suc k) es ≡ map (regrouped_entry c.args.from c.args.to) (take (k + 1) es) ++ drop (k + 1) es =
    ap (λ n. map (regrouped_entry c.args.from c.args.to) (take n es) ++ drop n es) (sym (add-one k)) in
    let there : slice_get (values_of (map (regrouped_entry c.args.from c.args.to) (take k es) ++ drop k es)) k ≡ Some c.index.result.now =
    ap (λ xs. slice_get (values_of xs) k) (sym c.loop-place.invariant.entries) ∙ c.index.ensures in
    elim c.if-eq.branch [
      | then-eq w ↦
          let at : slice_get (values_of (map (regrouped_entry c.args.from c.args.to) (take k es) ++ drop k es)) k ≡ Some w.index_mut.result.now =
          ap (λ xs. slice_get (values_of xs) k) (sym c.loop-place.invariant.entries) ∙ w.index_mut.ensures.value in
          let same : Some c.index.result.now ≡ Some w.index_mut.result.now = sym there ∙ at in
          let is : c.index.result.now ≡ w.index_mut.result.now = cc in
          record {
            entries = ap (λ m. m.entries) w.entries-is ∙ ap (λ xs. set_value_at xs k (record w.index_mut.result.now { group = c.args.to })) c.loop-place.invariant.entries
                ∙ regrouped_yes c.args.from c.args.to es k w.index_mut.result.now at (ap (λ (e : Entry). same_bytes c.args.from e.group) (sym is) ∙ sym c.eq.ensures ∙ w.if-eq.true) ∙ next;
            room = ap spare w.entries-is ∙ c.loop-place.invariant.room;
          }
      | else-eq w ↦ record {
        entries = ap (λ m. m.entries) w.entries-is ∙ c.loop-place.invariant.entries
            ∙ regrouped_no c.args.from c.args.to es k c.index.result.now there (sym c.eq.ensures ∙ w.if-eq.false) ∙ next;
        room = ap spare w.entries-is ∙ c.loop-place.invariant.room;
      }
    ]
