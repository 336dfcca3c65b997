-- No unit is 0.
use Rattle.ratio.proofs.Powers.{power_laws}
use Rattle.ratio.proofs.power_register.Goals as goal

pub nonzero_div-result : goal.nonzero_div-result
nonzero_div-result c = rw c.power_unit.ensures (power_laws.some _)
