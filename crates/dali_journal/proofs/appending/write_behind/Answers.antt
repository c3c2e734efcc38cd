use Rattle.std.proofs.Common.{◌+◌, length, is_ok, sym, ◌∙◌, arith}
use Rattle.dali_journal.proofs.AppendLemmas.{appends_one, appends_two, on_ok}
use Rattle.dali_journal.proofs.OutsideLemmas.{wider_outside, both_outside}
use Rattle.dali_journal.proofs.appending.write_behind.Goals as goal

pub returns-in-Err-clause-stops : goal.returns-in-Err-clause-stops
returns-in-Err-clause-stops g c = λ tells edition list more are short rest.
    let old = g.T.Site.sight c.args.site.now in
    let all = c.size-size.ensures.told tells in
    appends_one c.args.tail edition list more c.args.frames.now old rest (all.loose ∙ sym all.bytes) (length c.args.frames.now) (g.T.Site.sight c.write_firm.new.site) (c.write_firm.ensures.torn tells rest.firm)

pub returns-in-Ok-clause-stops : goal.returns-in-Ok-clause-stops
returns-in-Ok-clause-stops g c = λ tells edition list more are short rest.
    let old = g.T.Site.sight c.args.site.now in
    let all = c.size-size.ensures.told tells in
    let mid = g.T.Site.sight c.write_firm.new.site in
    appends_two c.args.tail edition list more c.args.frames.now old rest (all.loose ∙ sym all.bytes) mid (g.T.Site.sight c.write_firm-in-Ok.new.site) are short (length c.args.frames.now)
    (c.write_firm.ensures.torn tells rest.firm) (c.in-Ok.ensures.bytes tells) (c.write_firm.ensures.silent tells) (c.in-Ok.ensures.ended tells)
    (c.write_firm-in-Ok.ensures.torn tells (c.in-Ok.ensures.firm tells)) (is_ok c.write_firm-in-Ok.result)
    (λ works. (on_ok c.write_firm-in-Ok.result _ (c.write_firm-in-Ok.ensures.firm tells) works, on_ok c.write_firm-in-Ok.result _ (c.write_firm-in-Ok.ensures.bytes tells) works, on_ok c.write_firm-in-Ok.result _ (c.write_firm-in-Ok.ensures.told tells) works))

pub returns-in-Err-clause-outside : goal.returns-in-Err-clause-outside
returns-in-Err-clause-outside g c = λ tells.
    wider_outside (c.args.tail + 1) (length c.args.frames.now) c.args.tail (length c.args.frames.now + 1) (g.T.Site.sight c.args.site.now) (g.T.Site.sight c.write_firm.new.site)
    (omega arith) (omega arith) (c.write_firm.ensures.outside tells)

pub returns-in-Ok-clause-outside : goal.returns-in-Ok-clause-outside
returns-in-Ok-clause-outside g c = λ tells.
    let old = g.T.Site.sight c.args.site.now in
    let mid = g.T.Site.sight c.write_firm.new.site in
    let new = g.T.Site.sight c.write_firm-in-Ok.new.site in
    let n = length c.args.frames.now in
    both_outside c.args.tail (n + 1) old mid new
    (wider_outside (c.args.tail + 1) n c.args.tail (n + 1) old mid (omega arith) (omega arith) (c.write_firm.ensures.outside tells))
    (wider_outside c.args.tail 1 c.args.tail (n + 1) mid new (omega arith) (omega arith) (c.write_firm-in-Ok.ensures.outside tells))
