-- The largest count times the largest step fits 64 bits.
use Rattle.std.proofs.Common.{arith}
use native.Mathlib.Nat.{mul-le-mul}
use Rattle.ratio.proofs.Steps.{step_laws}
use Rattle.counts.proofs.stepped.Goals as goal

pub overflow_mul-result : goal.overflow_mul-result
overflow_mul-result c =
    rw (c.from.ensures, c.energy_step.ensures)
    (record { fits = omega (arith, mul-le-mul c.requires (step_laws.most c.args.t)) })
