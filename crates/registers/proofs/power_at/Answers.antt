-- The sample of a sound meter is within limits, so its phases can be added.
use Rattle.meter.proofs.Parts.{meter_parts, held_p, held_q}
use Rattle.registers.proofs.power_at.Goals as goal

pub in_force-requires : goal.in_force-requires
in_force-requires c =
    let m = c.args.sound.meter in
    held_p m m.latest c.args.sound.within (meter_parts m c.args.sound.within).latest

pub in_force-requires-in-1 : goal.in_force-requires-in-1
in_force-requires-in-1 c =
    let m = c.args.sound.meter in
    held_q m m.latest c.args.sound.within (meter_parts m c.args.sound.within).latest
