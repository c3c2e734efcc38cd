use Rattle.std.proofs.Common.{◌≡◌, ℕ, ◌<◌, ◌∙◌, Option, Some, Result, Ok, Err, List, length, ap, sym}
use Rattle.std.specs.Result.{IfOk}
use Rattle.dali_parts.specs.Finest.{AreFinest}
use Rattle.dali_parts.specs.Flood.{class_at, part_at, members_below}
use Rattle.dali_parts.proofs.Numbering.{numbered_finest}
use Rattle.dali_parts.proofs.classes.finest.Goals as goal

pub gather-requires-clause-below : goal.gather-requires-clause-below
gather-requires-clause-below c = λ j n is.
    (c.in_ok-count.ensures.numbered.least j n (sym (ap (λ (cs : List (Option ℕ)). class_at cs j) c.as_slice.ensures.value) ∙ is)).0

if_ok_both : {X Y : Type 0} (r : Result X Y) (P Q R : X → Type 0) → ((x : X) → P x → Q x → R x) → IfOk r P → IfOk r Q → IfOk r R
if_ok_both (Ok x) P Q R both one two = both x one two
if_ok_both (Err e) P Q R both one two = tt

pub returns : goal.returns
returns c = if_ok_both c.gather.result (λ (parts : List (List ℕ)). length parts ≡ c.in_ok-count.count)
    (λ (parts : List (List ℕ)). (n : ℕ) → n < c.in_ok-count.count → part_at parts n ≡ members_below c.as_slice.result.now n (length c.args.problem.now.items))
    (AreFinest c.args.problem.now)
    (λ parts size are. numbered_finest c.args.problem.now c.number_all.new.flood.classes.items c.number_all.new.flood.seen.items c.in_ok-count.count parts
    c.in_ok-count.ensures.numbered size (λ n below. are n below ∙ ap (λ (cs : List (Option ℕ)). members_below cs n (length c.args.problem.now.items)) c.as_slice.ensures.value))
    c.gather.ensures.size c.gather.ensures.parts
