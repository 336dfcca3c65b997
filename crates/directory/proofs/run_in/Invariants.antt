-- What is left of the run at the item of index i is the run itself, and finding the next address is looking at that item.
use lib.ListN.{take}
use Rattle.std.proofs.Common.{◌≡◌, ◌-◌, ◌≤◌}
use Rattle.directory.specs.Item.{items}
use Rattle.directory.specs.Run.{run_from, run_in}
use Rattle.directory.proofs.Runs.{Stands}
use Rattle.directory.proofs.run_in.Given as goal

abbrev pub invariant-loop-due : goal.invariant-loop-due
invariant-loop-due l = (l.first ≤ l.i) ×
    (l.i ≤ l.seen) ×
    (run_in (take l.seen (items l.table)) l.start l.words ≡ run_from (take l.seen (items l.table)) l.first (l.i - l.first) l.next l.due) ×
    Stands (take l.seen (items l.table)) l.i l.next

abbrev pub decreases-loop-due : goal.decreases-loop-due
decreases-loop-due l = l.seen - l.i
