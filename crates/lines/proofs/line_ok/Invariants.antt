-- What is left passes the test of pairs where the line passes its own.
use lib.ListN.{length}
use Rattle.std.proofs.Common.{◌≡◌}
use Rattle.lines.specs.Lines.{pairs_ok, line_ok}
use Rattle.lines.proofs.line_ok.Given as goal

abbrev pub invariant-loop-rest : goal.invariant-loop-rest
invariant-loop-rest l = pairs_ok l.rest ≡ line_ok l.line

abbrev pub decreases-loop-rest : goal.decreases-loop-rest
decreases-loop-rest l = length l.rest
