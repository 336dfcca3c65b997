-- The test is the definition's own.
use Rattle.reading.proofs.unless.Goals as goal

pub returns-then-impossible : goal.returns-then-impossible
returns-then-impossible c = simp c.if-impossible.true

pub returns-else-impossible : goal.returns-else-impossible
returns-else-impossible c = simp c.if-impossible.false
