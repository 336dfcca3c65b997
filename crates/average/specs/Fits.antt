-- Paper 02, request 1: what is asked of a window and a power so that sums fit 64 bits. No public call of a board or a collector asks any
-- of it.
use Rattle.std.specs.Prelude.{◌*◌, ◌≤◌}
use Rattle.signed.specs.declared.Signed.{Signed}
use Rattle.ratio.specs.Powers.{top_power}
use Rattle.average.specs.declared.Window.{Window}

-- an hour's seconds at the most, a sum of at most as many times the larger power limit, and a power of at most that limit
pub record Joins (w : Window) (p : Signed) : Type 0 where
  pub seconds : w.seconds ≤ 3600
  pub sum : w.sum ≤ w.seconds * top_power
  pub most : p.magnitude ≤ top_power
