-- The words that are left to read, stored behind those that were, are all of them; they fill the array, so nothing of it is left.
use lib.ListN.{length}
use Rattle.std.proofs.Common.{◌≡◌, ◌+◌, ◌-◌, ◌*◌}
use lib.Seq.{sets}
use Rattle.modbus.specs.Frame.{words_at}
use Rattle.modbus.proofs.values.Given as goal

abbrev pub invariant-loop-i : goal.invariant-loop-i
invariant-loop-i l = sets l.into l.i (words_at (length l.initial.into - l.i) l.frame (7 + 2 * l.i)) ≡ sets l.initial.into 0 (words_at (length l.initial.into) l.frame 7)
