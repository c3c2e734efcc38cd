use Rattle.std.proofs.Common.{◌≡◌, ◌∙◌, ◌+◌, [], ◌∷◌, ◌++◌, length, map, vec_len, sym, ap, subst, arith, rules}
use Rattle.std.proofs.lemmas.List.{length-append}
use Rattle.dali_journal.specs.Frames.{open_records, AreShort}
use Rattle.dali_journal.specs.GroupText.{payloads}
use Rattle.dali_journal.proofs.GroupLemmas.{Stands, shown, stands_more, payloads_length}
use Rattle.dali_journal.proofs.group.Group.add.Goals as goal

module _ (c : goal.After-unwrap) where
  lens_is : c.push.new.self.items ≡ c.self.inside.lens.items ++ length c.args.payload.now ∷ []
  lens_is = search rules

  stood : Stands c.self.inside.lens.items c.self.inside.text.items (payloads c.self.inside.lens.items c.self.inside.text.items)
  stood = record { lengths = c.self.invariant.1; records = c.self.invariant.0; short = c.self.invariant.2 }

  stands : Stands c.push.new.self.items c.add_record.new.text.items (payloads c.self.inside.lens.items c.self.inside.text.items ++ c.args.payload.now ∷ [])
  stands =
      let more = stands_more c.self.inside.lens.items c.self.inside.text.items (payloads c.self.inside.lens.items c.self.inside.text.items) c.args.payload.now stood c.requires.short in
      let text_is = c.add_record.ensures.items (open_records (payloads c.self.inside.lens.items c.self.inside.text.items)) c.self.invariant.0 in
      record { lengths = lens_is ∙ more.lengths; records = text_is ∙ more.records; short = more.short }

  is : payloads c.push.new.self.items c.add_record.new.text.items ≡ payloads c.self.inside.lens.items c.self.inside.text.items ++ c.args.payload.now ∷ []
  is = shown c.push.new.self.items c.add_record.new.text.items (payloads c.self.inside.lens.items c.self.inside.text.items ++ c.args.payload.now ∷ []) stands

pub invariant_of-self : goal.invariant_of-self
invariant_of-self c =
    let same = sym (is c) in
    let count : length c.push.new.self.items ≡ length c.self.inside.lens.items + 1 = ap length (lens_is c) ∙ length-append c.self.inside.lens.items (length c.args.payload.now ∷ []) in
    let old_text : length c.self.inside.text.items ≡ vec_len c.self.inside.text = search rules in
    let new_text : length c.add_record.new.text.items ≡ vec_len c.add_record.new.text = search rules in (
      (stands c).records ∙ ap (λ l. open_records l ++ 0 ∷ []) same,
      (stands c).lengths ∙ ap (λ l. map length l) same,
      subst AreShort same (stands c).short,
      omega (arith, count, c.requires.room, ap length c.self.view_is, payloads_length c.self.inside.lens.items c.self.inside.text.items),
      omega (arith, c.push.ensures.capacity, c.self.invariant.4),
      omega (arith, new_text, c.add_record.ensures.len, old_text, c.self.invariant.5, count, c.requires.short),
      omega (arith, c.add_record.ensures.capacity, c.self.invariant.6),
    )

pub returns : goal.returns
returns c = is c ∙ ap (λ l. l ++ c.args.payload.now ∷ []) c.self.view_is
