-- The window from low to high is halved until the item stands in its middle, or it is empty.
use lib.ListN.{length, take, get_or}
use Rattle.std.proofs.Common.{◌≡◌, sym, ◌+◌, ◌-◌, ◌/◌, ◌<◌, arith}
use Rattle.directory.specs.Item.{items, none}
use Rattle.directory.proofs.Order.{Ascends, ruled_ascends}
use Rattle.directory.proofs.Views.{view_length, view_item}
use Rattle.directory.proofs.Finds.{found_here, window_whole, window_up, window_down, window_empty}
use Rattle.directory.proofs.find_in.Goals as goal

pub loop-low-init : goal.loop-low-init
loop-low-init c =
    let size : length (take c.args.seen (items c.args.table.now)) ≡ c.args.seen = view_length c.args.table.now c.args.seen c.requires.0 in
    (omega arith, window_whole _ _ _ size)

pub returns-then-it-address : goal.returns-then-it-address
returns-then-it-address c =
    let ascends : Ascends 0 (take c.args.seen (items c.args.table.now)) = ruled_ascends (take c.args.seen (items c.args.table.now)) c.requires.1 in
    let size : length (take c.args.seen (items c.args.table.now)) ≡ c.args.seen = view_length c.args.table.now c.args.seen c.requires.0 in
    let seen : get_or (take c.args.seen (items c.args.table.now)) (c.loop-low.low + (c.loop-low.high - c.loop-low.low) / 2) none ≡ c.item_at-it.result = view_item c.args.table.now c.args.seen c.requires.0 _ (omega arith) c.item_at-it.ensures in
    sym (found_here ascends _ _ (omega (arith, size)) (rw seen c.if-it-address.true))

pub loop-low-preserved-then-it-address-2 : goal.loop-low-preserved-then-it-address-2
loop-low-preserved-then-it-address-2 c =
    let ascends : Ascends 0 (take c.args.seen (items c.args.table.now)) = ruled_ascends (take c.args.seen (items c.args.table.now)) c.requires.1 in
    let seen : get_or (take c.args.seen (items c.args.table.now)) (c.loop-low.low + (c.loop-low.high - c.loop-low.low) / 2) none ≡ c.item_at-it.result = view_item c.args.table.now c.args.seen c.requires.0 _ (omega arith) c.item_at-it.ensures in
    (omega arith, window_up ascends c.loop-low.invariant.1 _ (omega arith) (rw seen c.if-it-address-2.true))

pub loop-low-preserved : goal.loop-low-preserved
loop-low-preserved c =
    let ascends : Ascends 0 (take c.args.seen (items c.args.table.now)) = ruled_ascends (take c.args.seen (items c.args.table.now)) c.requires.1 in
    let seen : get_or (take c.args.seen (items c.args.table.now)) (c.loop-low.low + (c.loop-low.high - c.loop-low.low) / 2) none ≡ c.item_at-it.result = view_item c.args.table.now c.args.seen c.requires.0 _ (omega arith) c.item_at-it.ensures in
    let above : c.args.address < c.item_at-it.result.start = omega (arith, c.if-it-address.false) in
    (omega arith, window_down ascends c.loop-low.invariant.1 _ (omega arith) (omega arith) (rw seen above))

pub returns : goal.returns
returns c =
    let ascends : Ascends 0 (take c.args.seen (items c.args.table.now)) = ruled_ascends (take c.args.seen (items c.args.table.now)) c.requires.1 in
    sym (window_empty ascends c.loop-low.invariant.1 (omega arith))
