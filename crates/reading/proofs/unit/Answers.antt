-- The test is the definition's own.
use Rattle.std.proofs.Common.{arith}
use borrow.Author.Tests.{eq-eqb, ne_eqb}
use Rattle.reading.proofs.unit.Goals as goal

pub returns-then-which-eq-WHOLE_S : goal.returns-then-which-eq-WHOLE_S
returns-then-which-eq-WHOLE_S c = simp (eq-eqb c.args.which 9 (omega arith))

pub returns-else-which-eq-WHOLE_S : goal.returns-else-which-eq-WHOLE_S
returns-else-which-eq-WHOLE_S c = simp (ne_eqb c.args.which 9 (omega arith), c.power_unit.ensures)
