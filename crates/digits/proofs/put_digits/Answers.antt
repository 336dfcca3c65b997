-- The second store is at the place after the first, which the definition of a run of stores calls its successor.
use Rattle.std.proofs.Common.{add-one, arith}
use lib.ListN.{length-set}
use Rattle.digits.proofs.put_digits.Goals as goal

pub bounds-buffer-at-2 : goal.bounds-buffer-at-2
bounds-buffer-at-2 c = simp length-set (omega arith)

pub returns : goal.returns
returns c = rw (add-one, c.capital.ensures, c.capital-2.ensures)
