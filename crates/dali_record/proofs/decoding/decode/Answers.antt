use Rattle.dali_record.proofs.DecodeLemmas.{decodes_found, decodes_form, decodes_only}
use Rattle.dali_record.proofs.decoding.decode.Goals as goal

pub returns-clause-found : goal.returns-clause-found
returns-clause-found c = decodes_found c.args.bytes.now c.whole_entry.result c.whole_entry.ensures

pub returns-clause-form : goal.returns-clause-form
returns-clause-form c = decodes_form c.args.bytes.now c.whole_entry.result c.whole_entry.ensures

pub returns-clause-only : goal.returns-clause-only
returns-clause-only c = decodes_only c.args.bytes.now c.whole_entry.result c.whole_entry.ensures
