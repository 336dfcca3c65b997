-- The window from low to high is halved until the item stands in its middle, or it is empty.
use lib.ListN.{take}
use Rattle.std.proofs.Common.{◌-◌, ◌≤◌}
use Rattle.directory.specs.Item.{items}
use Rattle.directory.proofs.Finds.{Window}
use Rattle.directory.proofs.find_in.Given as goal

abbrev pub invariant-loop-low : goal.invariant-loop-low
invariant-loop-low l = (l.high ≤ l.seen) × Window (take l.seen (items l.table)) l.address l.low l.high

abbrev pub decreases-loop-low : goal.decreases-loop-low
decreases-loop-low l = l.high - l.low
