-- What is left of the run at the item of index i is the run itself, and finding the next address is looking at that item.
use lib.ListN.{length, take, get_or}
use Rattle.std.proofs.Common.{◌≡◌, Some, Err, ap, sym, ◌∙◌, ◌-◌, ◌<◌, arith}
use Rattle.directory.specs.Item.{items, none}
use Rattle.directory.specs.Run.{find_in}
use Rattle.directory.proofs.Order.{Ascends, Narrow, ruled_ascends, ruled_narrow}
use Rattle.directory.proofs.Views.{view_length, view_item}
use Rattle.std.proofs.lemmas.Result.{err_from_is_err_and}
use Rattle.directory.proofs.Errors.{found_none, found_some}
use Rattle.directory.proofs.Finds.{found_inside}
use Rattle.directory.proofs.Runs.{stands_first, stands_end, run_nowhere, run_starts, run_done, run_gap, turn_gap, turn_half, turn_next, turn_stands}
use Rattle.directory.proofs.run_in.Goals as goal

pub returns-in_err-first : goal.returns-in_err-first
returns-in_err-first c =
    let p = err_from_is_err_and c.from_residual.result c.from_residual.ensures.1 in
    let n = found_none _ _ (sym c.ok_or.ensures.value ∙ c.in_err-first.was) in
    p.1 ∙ ap Err (p.2 ∙ n.1) ∙ sym (run_nowhere _ c.args.start c.args.words (sym c.find_in.ensures ∙ n.0))

pub loop-due-init : goal.loop-due-init
loop-due-init c =
    let size : length (take c.args.seen (items c.args.table.now)) ≡ c.args.seen = view_length c.args.table.now c.args.seen c.requires.0 in
    let first = c.in_ok-first.first in
    let f : find_in (take c.args.seen (items c.args.table.now)) c.args.start 0 ≡ Some first = sym c.find_in.ensures ∙ found_some _ _ (sym c.ok_or.ensures.value ∙ c.in_ok-first.was) in
    let none_passed : first - first ≡ 0 = omega arith in
    (omega arith, omega (arith, found_inside (take c.args.seen (items c.args.table.now)) c.args.start first f, size), rw (none_passed, c.from-next.ensures) (run_starts (take c.args.seen (items c.args.table.now)) c.args.start c.args.words first f), rw c.from-next.ensures (stands_first c.args.start first f))

pub returns-then-seen-i : goal.returns-then-seen-i
returns-then-seen-i c =
    let size : length (take c.args.seen (items c.args.table.now)) ≡ c.args.seen = view_length c.args.table.now c.args.seen c.requires.0 in
    sym (c.loop-due.invariant.2 ∙ run_gap _ _ _ _ _ c.loop-due-test.true (stands_end c.loop-due.invariant.3 (omega (arith, size))))

pub returns-then-from-next : goal.returns-then-from-next
returns-then-from-next c =
    let size : length (take c.args.seen (items c.args.table.now)) ≡ c.args.seen = view_length c.args.table.now c.args.seen c.requires.0 in
    let inside : c.loop-due.i < length (take c.args.seen (items c.args.table.now)) = omega (arith, size) in
    let seen : get_or (take c.args.seen (items c.args.table.now)) c.loop-due.i none ≡ c.item_at-it.result = view_item c.args.table.now c.args.seen c.requires.0 _ (omega arith) c.item_at-it.ensures in
    let l = c.loop-due in
    sym (l.invariant.2 ∙ turn_gap inside seen l.invariant.3 _ _ _ c.loop-due-test.true (λ e. c.if-from-next.true (c.from.ensures ∙ e)))

pub returns-then-due-it : goal.returns-then-due-it
returns-then-due-it c =
    let size : length (take c.args.seen (items c.args.table.now)) ≡ c.args.seen = view_length c.args.table.now c.args.seen c.requires.0 in
    let inside : c.loop-due.i < length (take c.args.seen (items c.args.table.now)) = omega (arith, size) in
    let seen : get_or (take c.args.seen (items c.args.table.now)) c.loop-due.i none ≡ c.item_at-it.result = view_item c.args.table.now c.args.seen c.requires.0 _ (omega arith) c.item_at-it.ensures in
    let narrow : Narrow (get_or (take c.args.seen (items c.args.table.now)) c.loop-due.i none) = ruled_narrow (take c.args.seen (items c.args.table.now)) c.requires.1 _ inside in
    let l = c.loop-due in
    sym (l.invariant.2 ∙ turn_half inside seen l.invariant.3 narrow (sym c.from.ensures ∙ c.if-from-next.false) _ _ c.loop-due-test.true _ c.if-due-it.true)

pub loop-due-preserved : goal.loop-due-preserved
loop-due-preserved c =
    let size : length (take c.args.seen (items c.args.table.now)) ≡ c.args.seen = view_length c.args.table.now c.args.seen c.requires.0 in
    let ascends : Ascends 0 (take c.args.seen (items c.args.table.now)) = ruled_ascends (take c.args.seen (items c.args.table.now)) c.requires.1 in
    let inside : c.loop-due.i < length (take c.args.seen (items c.args.table.now)) = omega (arith, size) in
    let seen : get_or (take c.args.seen (items c.args.table.now)) c.loop-due.i none ≡ c.item_at-it.result = view_item c.args.table.now c.args.seen c.requires.0 _ (omega arith) c.item_at-it.ensures in
    let narrow : Narrow (get_or (take c.args.seen (items c.args.table.now)) c.loop-due.i none) = ruled_narrow (take c.args.seen (items c.args.table.now)) c.requires.1 _ inside in
    let l = c.loop-due in
    let starts = sym c.from.ensures ∙ c.if-from-next.false in
    let turn = turn_next inside seen l.invariant.3 narrow starts _ _ c.loop-due-test.true l.invariant.0 c.if-due-it.false in
    (omega arith, omega arith, rw c.from-next-in-loop-due.ensures (l.invariant.2 ∙ turn), rw c.from-next-in-loop-due.ensures (turn_stands inside seen l.invariant.3 ascends starts))

pub returns : goal.returns
returns c =
    let none-due : c.loop-due.due ≡ 0 = omega arith in
    sym (c.loop-due.invariant.2 ∙ rw none-due (run_done _ _ _ _))
