-- No step is 0.
use Rattle.std.proofs.Common.{arith}
use Rattle.ratio.proofs.Steps.{step_laws}
use Rattle.counts.proofs.WattHours.count.Goals as goal

pub nonzero_div-result : goal.nonzero_div-result
nonzero_div-result c = omega (arith, step_laws.least c.args.t)
