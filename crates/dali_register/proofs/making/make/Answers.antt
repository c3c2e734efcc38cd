use Rattle.std.proofs.Common.{sym, subst}
use Rattle.dali_reply.specs.Reply.{HasText}
use Rattle.dali_reply.proofs.Outcomes.{reported_text}
use Rattle.dali_register.proofs.making.make.Goals as goal

pub reply-requires : goal.reply-requires
reply-requires c = subst HasText (sym c.outcome.ensures.outcome) (reported_text c.in_ok-ready.ready.outcome c.outcome.ensures.reported)
