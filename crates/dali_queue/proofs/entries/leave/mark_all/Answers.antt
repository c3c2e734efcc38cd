use Rattle.std.proofs.Common.{◌≡◌, ◌<◌, ◌∙◌, ◌++◌, [], ◌∷◌, true, Some, length, take, get_or, ap, sym, refl, arith}
use Rattle.std.specs.Prelude.{slice_get}
use Rattle.std.specs.Map.{values_of}
use Rattle.std.proofs.lemmas.List.{take_more}
use Rattle.indexmap.specs.Layout.{set_value_at}
use Rattle.dali_queue.specs.EntryList.{marked}
use Rattle.dali_queue.proofs.ChangeLemmas.{marked_none, length_marked, marked_more}
use Rattle.dali_queue.proofs.entries.leave.mark_all.Goals as goal

pub loop-place-init : goal.loop-place-init
loop-place-init c = record { entries = marked_none 0 c.args.entries.now.entries; room = refl }

pub index_mut-requires : goal.index_mut-requires
index_mut-requires c =
    let within : get_or c.args.places.now c.loop-place.place-index 0 < length c.args.entries.now.entries = c.requires c.loop-place.place-index 0 c.loop-place-test.true in
    let same : length c.loop-place.entries.entries ≡ length c.args.entries.now.entries =
    ap length c.loop-place.invariant.entries ∙ length_marked (take c.loop-place.place-index c.args.places.now) 0 c.args.entries.now.entries in
    omega (arith, within, same)

pub loop-place-preserved : goal.loop-place-preserved
loop-place-preserved c =
    let es = c.args.entries.now.entries in
    let before = take c.loop-place.place-index c.args.places.now in
    let place = get_or c.args.places.now c.loop-place.place-index 0 in
    let at : slice_get (values_of (marked before 0 es)) place ≡ Some c.index_mut.result.now =
    ap (λ xs. slice_get (values_of xs) place) (sym c.loop-place.invariant.entries) ∙ c.index_mut.ensures.value in
    record {
      entries = ap (λ xs. set_value_at xs place (record c.index_mut.result.now { leaving = true })) c.loop-place.invariant.entries
          ∙ marked_more before 0 place es c.index_mut.result.now at
          ∙ ap (λ p. marked (before ++ p ∷ []) 0 es) (omega arith)
          ∙ ap (λ ps. marked ps 0 es) (sym (take_more c.args.places.now c.loop-place.place-index 0 c.loop-place-test.true));
      room = c.loop-place.invariant.room;
    }
