-- Paper 01, "The meter's record": the power limit and the top of an energy, as private functions ask for them so that their sums fit 64
-- bits. No public call asks any of it.
use Rattle.std.specs.Prelude.{◌≤◌, nat_abs}
use Rattle.signed.specs.declared.Signed.{Signed}
use Rattle.ratio.specs.Powers.{top_power}
use Rattle.counts.specs.Counting.{top_wh}
use Rattle.meter.specs.declared.samples.Powers.{Powers}
use Rattle.meter.specs.declared.energies.Energies.{Energies}

-- each phase is at most the larger power limit
pub record Held (p : Powers) : Type 0 where
  pub one : nat_abs p.l1 ≤ top_power
  pub two : nat_abs p.l2 ≤ top_power
  pub three : nat_abs p.l3 ≤ top_power

-- energies are at most their top, and a power the larger limit
pub record Room (es : Energies) (power : Signed) : Type 0 where
  pub positive : es.positive.wh.0 ≤ top_wh
  pub negative : es.negative.wh.0 ≤ top_wh
  pub most : power.magnitude ≤ top_power
