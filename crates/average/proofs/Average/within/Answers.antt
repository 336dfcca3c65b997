-- 65,535 seconds of the larger power limit fit.
use Rattle.std.proofs.Common.{arith, ◌≤◌}
use native.Mathlib.Nat.{mul-le-mul}
use Rattle.ratio.specs.Powers.{top_power}
use Rattle.ratio.proofs.Powers.{power_laws}
use borrow.Author.Rules.{rules}
use Rattle.average.proofs.Average.within.Goals as goal

pub overflow_mul-from : goal.overflow_mul-from
overflow_mul-from c =
    let most : c.power_limit-limit.result ≤ top_power = rw c.power_limit-limit.ensures (power_laws.limit c.args.t) in
    record { fits = omega (arith, mul-le-mul {n₁ = c.from.result} {m₁ = c.power_limit-limit.result} {n₂ = 65535} {m₂ = top_power} (search rules) most) }
