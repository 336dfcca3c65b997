-- A write that is stored has the six bytes that are echoed.
use Rattle.std.proofs.Common.{rules, ◌≡◌, sym, ap, ◌∙◌, None, Ok, arith}
use Rattle.modbus.proofs.Frames.{shaped_length}
use Rattle.store.specs.Writes.{fault_of, written_of}
use Rattle.store.proofs.Verdicts.{write_when}
use Rattle.board.proofs.write.Goals as goal

pub put_echo-requires : goal.put_echo-requires
put_echo-requires c =
    let is : c.write-written.result ≡ Ok c.in-Ok-written.field-0 = search rules in
    let good : fault_of (written_of c.args.meter.now c.args.frame.now) ≡ None = ap fault_of (sym c.write-written.ensures ∙ is) in
    omega (arith, (shaped_length c.args.frame.now ((write_when c.args.meter.now c.args.frame.now).legal.0 good).0).0)
