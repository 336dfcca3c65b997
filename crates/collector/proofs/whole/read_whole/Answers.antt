-- Request and reply are judged as the definition does, by paper 01's own directory.
use lib.ListN.{length}
use lib.Dec.{T}
use Rattle.std.proofs.Common.{◌≡◌, Result, Ok, Err, sym, ap, ap₂, ◌∙◌, List, ℕ}
use Rattle.std.proofs.lemmas.Result.{err_from_is_err_and}
use Rattle.directory.specs.declared.Item.{Item}
use Rattle.directory.specs.Views.{View, passes}
use Rattle.own.specs.Own.{own}
use Rattle.own.proofs.Rules.{own_good}
use Rattle.replies.specs.declared.Unread.{Unread}
use Rattle.replies.specs.Judged.{judged_in}
use Rattle.collector.specs.Collector.{item_of}
use Rattle.collector.specs.Whole.{in_turn, Rows, kept_by, filled_by, whole_in}
use Rattle.collector.proofs.Parts.{data_part}
use Rattle.collector.proofs.Rows.{allowed, allowed_by, whole_unread, whole_items}
use Rattle.collector.proofs.whole.read_whole.Goals as goal

-- the directory passes the tests
good : (v : View) → v ≡ own → T (passes v)
good v e = rw e own_good

pub part-requires : goal.part-requires
part-requires c =
    let v = c.directory-directory.result in
    (data_part v (good v c.directory-directory.ensures) c.args.request.now c.args.reply.now c.args.plate.ratios c.in_ok-span.span (sym c.judge.ensures ∙ c.in_ok-span.was)).inside

pub invariant_of-data : goal.invariant_of-data
invariant_of-data c =
    let v = c.directory-directory.result in
    record { fits = rw c.part.ensures (data_part v (good v c.directory-directory.ensures) c.args.request.now c.args.reply.now c.args.plate.ratios c.in_ok-span.span (sym c.judge.ensures ∙ c.in_ok-span.was)).words }

pub fill-requires : goal.fill-requires
fill-requires c =
    let v = c.directory-directory.result in
    rw c.part.ensures (data_part v (good v c.directory-directory.ensures) c.args.request.now c.args.reply.now c.args.plate.ratios c.in_ok-span.span (sym c.judge.ensures ∙ c.in_ok-span.was)).few

pub returns : goal.returns
returns c =
    let a = c.args in
    let v = c.directory-directory.result in
    let found : judged_in v a.request.now a.reply.now a.plate.ratios ≡ Ok c.in_ok-span.span = sym c.judge.ensures ∙ c.in_ok-span.was in
    let by : ℕ → List Item → Rows = λ t its. filled_by (in_turn (length its) (item_of a.plate.order t its a.reply.now)) a.values.now a.kinds.now in
    let seen = (data_part v (good v c.directory-directory.ensures) a.request.now a.reply.now a.plate.ratios c.in_ok-span.span found).inside in
    allowed_by
    (ap₂ by c.tenths.ensures c.part.ensures
    ∙ sym (whole_items v a.request.now a.reply.now a.plate a.values.now a.kinds.now _ found seen)
    ∙ ap (λ (w : View). whole_in w a.request.now a.reply.now a.plate a.values.now a.kinds.now) c.directory-directory.ensures)
    c.fill.ensures

pub returns-in_err-span : goal.returns-in_err-span
returns-in_err-span c =
    let a = c.args in
    let v = c.directory-directory.result in
    let p = err_from_is_err_and c.from_residual.result c.from_residual.ensures.1 in
    let kept = whole_unread v a.request.now a.reply.now a.plate a.values.now a.kinds.now _ (sym c.judge.ensures ∙ c.in_err-span.was) in
    allowed
    (ap (λ (r : Result ℕ Unread). kept_by r a.values.now a.kinds.now) (p.1 ∙ ap Err p.2)
    ∙ sym kept
    ∙ ap (λ (w : View). whole_in w a.request.now a.reply.now a.plate a.values.now a.kinds.now) c.directory-directory.ensures)
