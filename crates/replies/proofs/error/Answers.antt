-- The tests are the definition's own.
use lib.ListN.{length}
use Rattle.std.proofs.Common.{arith, ap, sym, ◌∙◌}
use borrow.Author.Tests.{eq-eqb, ne_eqb}
use Rattle.replies.specs.Judged.{on_code, error_of}
use Rattle.replies.proofs.error.Goals as goal

pub returns-then-reply-ne-REPLY_LEAST : goal.returns-then-reply-ne-REPLY_LEAST
unfolding error_of
returns-then-reply-ne-REPLY_LEAST c = c.into.ensures ∙ simp (ne_eqb (length c.args.reply.now) 5 (omega arith))

pub returns-in-Ok : goal.returns-in-Ok
unfolding error_of
returns-in-Ok c =
    c.into-in-Ok.ensures
    ∙ simp (eq-eqb (length c.args.reply.now) 5 (omega arith)) (ap on_code (sym c.in-Ok.is ∙ c.try_from.ensures))

pub returns-in-Err : goal.returns-in-Err
unfolding error_of
returns-in-Err c =
    c.into-in-Err.ensures
    ∙ simp (eq-eqb (length c.args.reply.now) 5 (omega arith)) (ap on_code (sym c.in-Err.is ∙ c.try_from.ensures))
