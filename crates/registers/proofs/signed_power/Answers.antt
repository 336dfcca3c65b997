-- A power within its limit, in whole units, fits a signed L.
use Rattle.std.proofs.Common.{sym, arith}
use Rattle.ratio.proofs.Powers.{powers_fit}
use Rattle.meter.specs.Meters.{meter_t}
use Rattle.registers.specs.Shown.{power_at}
use Rattle.registers.proofs.Values.{signed_at, power_most}
use Rattle.registers.proofs.signed_power.Goals as goal

pub overflow_cast-p : goal.overflow_cast-p
overflow_cast-p c =
    let most = powers_fit.signed (meter_t c.args.sound.meter) (power_at c.args.sound.meter c.args.which).magnitude (power_most c.args.sound.meter c.args.which c.args.sound.within) in
    rw c.power_at-p.ensures (record { fits = omega (arith, most) })

pub returns : goal.returns
returns c = rw (c.twos_long.ensures, c.power_at-p.ensures) (sym (signed_at c.args.sound.meter c.args.which))
