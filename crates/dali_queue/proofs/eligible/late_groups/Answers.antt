use Rattle.std.proofs.Common.{◌≡◌, ◌∙◌, ap, sym, arith, length}
use Rattle.std.specs.Prelude.{nat_lt}
use Rattle.std.specs.List.{list_any}
use Rattle.std.proofs.lemmas.List.{take_all}
use Rattle.dali_base.specs.NameList.{NameList, knows, with_name}
use Rattle.dali_queue.specs.declared.entries.Entry.{Entry}
use Rattle.dali_queue.specs.Cutoffs.{cutoff_of}
use Rattle.dali_queue.proofs.LateLemmas.{is_late_in, gt_is, late_yes, late_no, late_are}
use Rattle.dali_queue.proofs.NameLemmas.{with_length}
use Rattle.dali_queue.proofs.eligible.late_groups.Goals.{then-gt+in_ok-add, else-gt}
use Rattle.dali_queue.proofs.eligible.late_groups.Goals as goal

pub loop-entry-preserved : goal.loop-entry-preserved
loop-entry-preserved c =
    let tested : nat_lt (cutoff_of c.args.cutoffs.now c.entry-item.result.item.kind) c.args.moment ≡ c.gt.result = ap (λ n. nat_lt n c.args.moment) (sym c.of.ensures) ∙ sym (gt_is c.args.moment c.of.result) ∙ sym c.gt.ensures in
    let there = ap (λ (e : Entry). nat_lt (cutoff_of c.args.cutoffs.now e.item.kind) c.args.moment) (sym c.entry-item.is) in
    elim c.if-gt.branch [
      | then-gt+in_ok-add w ↦
          let grown : c.if-gt.late ≡ with_name c.loop-entry.late c.entry-item.result.group = w.late-is ∙ w.in_ok-add.ensures.ok in
          record {
            size = let same = ap (λ (n : NameList). length n.names) grown in omega (arith, same, with_length c.loop-entry.late c.entry-item.result.group, c.loop-entry.invariant.size);
            known = λ group. ap (λ (n : NameList). knows n.names group) grown
                ∙ ap (λ (e : Entry). knows (with_name c.loop-entry.late e.group).names group) c.entry-item.is
                ∙ late_yes c.args.cutoffs.now c.args.moment c.args.entries.now c.loop-entry.entry-index c.entry-item.result c.loop-entry-test.true group c.loop-entry.late (c.loop-entry.invariant.known group) (there ∙ tested ∙ w.if-gt.true);
          }
      | else-gt w ↦ record {
        size = let same = ap (λ (n : NameList). length n.names) w.late-is in omega (arith, same, c.loop-entry.invariant.size);
        known = λ group. ap (λ (n : NameList). knows n.names group) w.late-is
            ∙ late_no c.args.cutoffs.now c.args.moment c.args.entries.now c.loop-entry.entry-index c.entry-item.result c.loop-entry-test.true group c.loop-entry.late (c.loop-entry.invariant.known group) (there ∙ tested ∙ w.if-gt.false);
      }
    ]

pub returns : goal.returns
returns c group = c.loop-entry.invariant.known group
    ∙ ap (list_any (is_late_in c.args.cutoffs.now c.args.moment group)) (take_all c.loop-entry.entry-index c.args.entries.now c.loop-entry-test.false)
    ∙ late_are c.args.cutoffs.now c.args.moment group c.args.entries.now
