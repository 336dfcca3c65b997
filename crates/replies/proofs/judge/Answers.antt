-- The tests are the definition's own, in its order.
use Rattle.std.proofs.Common.{Ok, Err, sym, ap, ◌∙◌}
use Rattle.std.proofs.lemmas.Result.{err_from_is_err_and}
use Rattle.modbus.proofs.Judged.{read_when}
use Rattle.replies.specs.Judged.{judged_in}
use Rattle.replies.proofs.Judged.{passing, reply_passing, heard_judged}
use Rattle.replies.proofs.judge.Goals as goal

pub returns-then-not-within : goal.returns-then-not-within
unfolding judged_in
returns-then-not-within c = ap Err c.into.ensures ∙ simp (sym c.within.ensures ∙ c.if-not-within.true)

pub returns-then-not-heard : goal.returns-then-not-heard
unfolding judged_in
returns-then-not-heard c = ap Err c.into-then-not-heard.ensures ∙ simp (sym c.within.ensures ∙ c.if-not-within.false, sym c.heard.ensures ∙ c.if-not-heard.true)

pub returns-in_default : goal.returns-in_default
returns-in_default c =
    ap Err c.into-in_default.ensures
    ∙ heard_judged _ _ c.args.reply.now _ (Err c.in_default.field-0) (sym c.within.ensures ∙ c.if-not-within.false) (sym c.heard.ensures ∙ c.if-not-heard.false) (sym c.read_in.ensures ∙ c.in_default.is)

pub replied-requires : goal.replied-requires
replied-requires c =
    (((read_when c.args.directory.now c.args.request.now).items c.in-Ok.asked.first c.in-Ok.asked.count).0 (sym c.read_in.ensures ∙ c.in-Ok.is)).0

pub returns-in_err-replied : goal.returns-in_err-replied
returns-in_err-replied c =
    let p = err_from_is_err_and c.from_residual.result c.from_residual.ensures.1 in
    p.1
    ∙ ap Err p.2
    ∙ ap (passing c.in-Ok.asked) (sym c.in_err-replied.was ∙ c.replied.ensures)
    ∙ reply_passing c.args.request.now c.args.reply.now tt c.in-Ok.asked
    ∙ heard_judged _ _ c.args.reply.now _ (Ok c.in-Ok.asked) (sym c.within.ensures ∙ c.if-not-within.false) (sym c.heard.ensures ∙ c.if-not-heard.false) (sym c.read_in.ensures ∙ c.in-Ok.is)

pub returns : goal.returns
returns c =
    ap (passing c.in-Ok.asked) (sym c.in_ok-replied.was ∙ c.replied.ensures)
    ∙ reply_passing c.args.request.now c.args.reply.now tt c.in-Ok.asked
    ∙ heard_judged _ _ c.args.reply.now _ (Ok c.in-Ok.asked) (sym c.within.ensures ∙ c.if-not-within.false) (sym c.heard.ensures ∙ c.if-not-heard.false) (sym c.read_in.ensures ∙ c.in-Ok.is)
