-- What is left of the line is still good, and its bytes, stored from the next place on, make the buffer that is due.
use lib.ListN.{length, take, drop}
use Rattle.std.proofs.Common.{◌≡◌, true, ◌-◌, ◌*◌}
use lib.Seq.{sets}
use Rattle.lines.specs.Lines.{bytes_of, line_ok}
use Rattle.lines.proofs.put_bytes.Given as goal

abbrev pub invariant-loop-i : goal.invariant-loop-i
invariant-loop-i l = (line_ok (drop (3 * l.i) l.line) ≡ true) ×
    (sets l.buffer l.i (take (length l.initial.buffer - l.i) (bytes_of (drop (3 * l.i) l.line))) ≡ sets l.initial.buffer 0 (take (length l.initial.buffer) (bytes_of l.line)))
