use Rattle.std.proofs.Common.{◌≡◌, ◌∙◌, ℕ, List, ◌++◌, sym, ap, subst}
use Rattle.std.specs.Prelude.{IsTrue}
use Rattle.dali_base.specs.Spelling.{moment_digits}
use Rattle.dali_line.specs.Line.{is_line}
use Rattle.dali_line.specs.Grammar.{pieces_of}
use Rattle.dali_line.specs.Writing.{after_commas}
use Rattle.dali_line.proofs.Found.{verb_pieces, few_pieces}
use Rattle.dali_line.proofs.Lined.{spelled_line}
use Rattle.dali_line.proofs.writing.write_line.Goals as goal

pub of-requires : goal.of-requires
of-requires c =
    let verb = c.args.command.now.verb in
    let moment = c.args.command.now.moment in
    let front : c.add.new.self ≡ moment_digits moment =
    c.in_ok-add.ensures.ok ∙ ap (λ (empty : List ℕ). empty ++ c.digits.result) c.new-text.ensures ∙ c.digits.ensures.digits in
    let text : c.add_verb.new.text ≡ moment_digits moment ++ after_commas (pieces_of verb) =
    c.in_ok-add_verb.ensures.added ∙ ap (λ (f : List ℕ). f ++ after_commas (pieces_of verb)) front in
    subst (λ (bytes : List ℕ). IsTrue (is_line bytes)) (sym text)
    (spelled_line moment (pieces_of verb) (verb_pieces verb c.in_ok-add_verb.ensures.fields) (few_pieces verb))
