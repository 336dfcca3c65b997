-- Request and reply are judged as the definition does, by paper 01's own directory.
use Rattle.std.proofs.Common.{◌≡◌, Ok, Err, Result, sym, ap, ap₂, ◌∙◌, List, ℕ}
use lib.Dec.{T}
use Rattle.directory.specs.declared.Item.{Item}
use Rattle.directory.specs.declared.Span.{Span}
use Rattle.directory.specs.Views.{View, passes}
use Rattle.ratio.specs.Ratios.{t_of}
use Rattle.own.specs.Own.{own}
use Rattle.own.proofs.Rules.{own_good}
use Rattle.replies.specs.declared.Unread.{Unread}
use Rattle.replies.specs.Judged.{judged_in}
use Rattle.collector.specs.Collector.{item_of, on_data, collector_in}
use Rattle.collector.proofs.Parts.{data_part}
use Rattle.collector.proofs.read.Goals as goal

-- the directory passes the tests
good : (v : View) → v ≡ own → T (passes v)
good v e = rw e own_good

pub part-requires : goal.part-requires
part-requires c =
    let v = c.directory-directory.result in
    (data_part v (good v c.directory-directory.ensures) c.args.request.now c.args.reply.now c.args.plate.ratios c.in-Ok.span (sym c.judge.ensures ∙ c.in-Ok.is)).inside

pub invariant_of-data : goal.invariant_of-data
invariant_of-data c =
    let v = c.directory-directory.result in
    record { fits = rw c.part.ensures (data_part v (good v c.directory-directory.ensures) c.args.request.now c.args.reply.now c.args.plate.ratios c.in-Ok.span (sym c.judge.ensures ∙ c.in-Ok.is)).words }

pub returns-in-Ok : goal.returns-in-Ok
unfolding collector_in
returns-in-Ok c =
    let a = c.args in
    let v = c.directory-directory.result in
    let found : judged_in v a.request.now a.reply.now a.plate.ratios ≡ Ok c.in-Ok.span = sym c.judge.ensures ∙ c.in-Ok.is in
    c.item.ensures
    ∙ ap₂ (λ (t : ℕ) (its : List Item). item_of a.plate.order t its a.reply.now a.index) c.tenths.ensures c.part.ensures
    ∙ ap (λ (j : Result Span Unread). on_data v j (λ its. item_of a.plate.order (t_of a.plate.ratios) its a.reply.now a.index)) (sym found)
    ∙ ap (λ (w : View). collector_in w a.request.now a.reply.now a.plate a.index) c.directory-directory.ensures

pub returns-in-Err : goal.returns-in-Err
unfolding collector_in
returns-in-Err c =
    let a = c.args in
    let v = c.directory-directory.result in
    let found : judged_in v a.request.now a.reply.now a.plate.ratios ≡ Err c.in-Err.why = sym c.judge.ensures ∙ c.in-Err.is in
    c.from.ensures
    ∙ ap (λ (j : Result Span Unread). on_data v j (λ its. item_of a.plate.order (t_of a.plate.ratios) its a.reply.now a.index)) (sym found)
    ∙ ap (λ (w : View). collector_in w a.request.now a.reply.now a.plate a.index) c.directory-directory.ensures
