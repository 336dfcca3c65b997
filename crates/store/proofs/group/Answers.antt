-- A write of as many words as the group has holds all of them.
use Rattle.std.proofs.Common.{rules, ◌≡◌, arith}
use Rattle.modbus.specs.Frame.{word_number}
use Rattle.modbus.proofs.Frames.{shaped_length}
use Rattle.store.proofs.group.Goals as goal

pub word_at-requires : goal.word_at-requires
word_at-requires g c = omega (arith, (shaped_length c.args.frame.now c.requires).0)

pub values-requires : goal.values-requires
values-requires g c =
    let number : word_number c.args.frame.now ≡ g.row.N = search rules in
    omega (arith, (shaped_length c.args.frame.now c.requires).1, number)
