-- The text of the lines that are left, stored where the text ends so far, makes the whole one; it has room, since the whole text has.
use lib.ListN.{length, drop}
use Rattle.std.proofs.Common.{◌≡◌, ◌+◌, ◌-◌, ◌≤◌}
use lib.Seq.{sets}
use Rattle.transcript.specs.Transcript.{lines_of, transcript_of, bench_text}
use Rattle.transcript.proofs.run.Given as goal

abbrev pub invariant-loop-at : goal.invariant-loop-at
invariant-loop-at l = (l.at ≤ length l.input + 1) ×
    (length l.text ≡ length l.initial.text) ×
    (l.end + length (transcript_of l.meter (lines_of (drop l.at l.input))) ≡ length (bench_text l.input)) ×
    (sets l.text l.end (transcript_of l.meter (lines_of (drop l.at l.input))) ≡ sets l.initial.text 0 (bench_text l.input))

abbrev pub decreases-loop-at : goal.decreases-loop-at
decreases-loop-at l = length l.input - l.at
