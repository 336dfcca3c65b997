-- The record and the sample are within limits, so every sum has room.
use Rattle.std.proofs.Common.{◌∙◌}
use Rattle.average.specs.Windows.{after_second}
use Rattle.average.proofs.Limits.{joins}
use Rattle.meter.specs.Samples.{in_force}
use Rattle.meter.specs.Energies.{with_powers}
use Rattle.meter.specs.Groups.{code_of}
use Rattle.meter.specs.Meters.{meter_t, with_counters, with_latest, with_average}
use Rattle.meter.proofs.Parts.{meter_parts, held_p, held_q, p_most, room}
use Rattle.meter.proofs.Meter.counted.Goals as goal

pub in_force-p-requires : goal.in_force-p-requires
in_force-p-requires c = held_p c.args.self c.args.sample c.requires.0 c.requires.1

pub in_force-requires : goal.in_force-requires
in_force-requires c = held_q c.args.self c.args.sample c.requires.0 c.requires.1

pub plus-requires : goal.plus-requires
plus-requires c =
    rw (c.in_force-p.ensures, c.in_force.ensures)
    (room c.args.self c.args.sample c.requires.0 c.requires.1)

pub after-requires : goal.after-requires
after-requires c =
    let m = c.args.self in
    rw c.in_force-p.ensures
    (joins (meter_t m) (code_of m.setup) m.average (in_force c.args.sample.p) (meter_parts m c.requires.0).average (p_most m c.args.sample c.requires.0 c.requires.1))

pub returns : goal.returns
returns c =
    let m = c.args.self in
    let counters = c.plus.ensures ∙ (λ i. with_powers m.counters (c.in_force-p.ensures i) (c.in_force.ensures i)) in
    let average = c.after.ensures ∙ (λ i. after_second (c.code.ensures i) m.average (c.in_force-p.ensures i)) in
    λ i. with_average (with_latest (with_counters m (counters i)) c.args.sample) (average i)
