-- What is within the power limit fits its register.
use Rattle.std.proofs.Common.{sym, arith}
use Rattle.ratio.proofs.Powers.{powers_fit}
use Rattle.meter.specs.Meters.{meter_t}
use Rattle.meter.proofs.Parts.{meter_parts, sample_parts, figures, last_most}
use Rattle.registers.specs.Shown.{power_at}
use Rattle.registers.proofs.Values.{power_s, power_whole, power_average, power_peak, power_at_lem, power_most}
use Rattle.registers.proofs.power.Goals as goal

pub overflow_cast-result : goal.overflow_cast-result
overflow_cast-result c =
    rw (c.power_register.ensures, c.tenths-t.ensures) (record { fits = powers_fit.register (meter_t c.args.sound.meter) c.args.sound.meter.latest.s (sample_parts (meter_t c.args.sound.meter) c.args.sound.meter.latest (meter_parts c.args.sound.meter c.args.sound.within).latest).apparent })

pub overflow_cast-result-in-9 : goal.overflow_cast-result-in-9
overflow_cast-result-in-9 c =
    record { fits = omega (arith, powers_fit.signed (meter_t c.args.sound.meter) c.args.sound.meter.latest.s (sample_parts (meter_t c.args.sound.meter) c.args.sound.meter.latest (meter_parts c.args.sound.meter c.args.sound.within).latest).apparent) }

pub overflow_cast-result-in-10 : goal.overflow_cast-result-in-10
overflow_cast-result-in-10 c =
    rw (c.power_register-in-10.ensures, c.tenths-t.ensures) (record { fits = powers_fit.register (meter_t c.args.sound.meter) c.args.sound.meter.average.last (last_most c.args.sound.meter c.args.sound.within) })

pub overflow_cast-result-in-11 : goal.overflow_cast-result-in-11
overflow_cast-result-in-11 c =
    rw (c.power_register-in-11.ensures, c.tenths-t.ensures) (record { fits = powers_fit.register (meter_t c.args.sound.meter) c.args.sound.meter.average.peak (figures c.args.sound.meter c.args.sound.within).peak })

pub overflow_cast-result-in_default : goal.overflow_cast-result-in_default
overflow_cast-result-in_default c =
    rw (c.power_register-in_default.ensures, c.tenths-t.ensures, c.power_at-p.ensures)
    (record { fits = powers_fit.register (meter_t c.args.sound.meter) (power_at c.args.sound.meter c.args.which).magnitude (power_most c.args.sound.meter c.args.which c.args.sound.within) })

pub returns-in-8 : goal.returns-in-8
returns-in-8 c = rw (c.in-8.is, c.power_register.ensures, c.tenths-t.ensures) (sym (power_s c.args.sound.meter))

pub returns-in-9 : goal.returns-in-9
returns-in-9 c = rw c.in-9.is (sym (power_whole c.args.sound.meter))

pub returns-in-10 : goal.returns-in-10
returns-in-10 c = rw (c.in-10.is, c.power_register-in-10.ensures, c.tenths-t.ensures) (sym (power_average c.args.sound.meter))

pub returns-in-11 : goal.returns-in-11
returns-in-11 c = rw (c.in-11.is, c.power_register-in-11.ensures, c.tenths-t.ensures) (sym (power_peak c.args.sound.meter))

pub returns-in_default : goal.returns-in_default
returns-in_default c =
    rw (c.power_register-in_default.ensures, c.tenths-t.ensures, c.power_at-p.ensures)
    (sym (power_at_lem c.args.sound.meter c.args.which (λ from. omega arith)))
