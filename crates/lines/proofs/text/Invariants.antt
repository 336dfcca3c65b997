-- The text of what is left, stored where the next byte's digits stand, makes the buffer that is due.
use lib.ListN.{drop}
use Rattle.std.proofs.Common.{◌≡◌, ◌*◌}
use lib.Seq.{sets}
use Rattle.lines.specs.Lines.{text_of}
use Rattle.lines.proofs.text.Given as goal

abbrev pub invariant-loop-i : goal.invariant-loop-i
invariant-loop-i l = sets l.buffer (3 * l.i) (text_of (drop l.i l.bytes)) ≡ sets l.fn.buffer 0 (text_of l.bytes)
