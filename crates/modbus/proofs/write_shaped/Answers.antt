-- A frame under nine bytes is not shaped; of a longer one the three tests are the written ones.
use Rattle.std.proofs.Common.{arith}
use Rattle.modbus.proofs.Frames.{shape_short, shape_long}
use Rattle.modbus.proofs.write_shaped.Goals as goal

pub returns-then-n-lt-WRITE_OVERHEAD : goal.returns-then-n-lt-WRITE_OVERHEAD
returns-then-n-lt-WRITE_OVERHEAD c = shape_short c.args.frame.now c.if-n-lt-WRITE_OVERHEAD.true

pub overflow_add-result : goal.overflow_add-result
overflow_add-result c = omega (arith, c.from-bytes.ensures, c.type_inv.frame 6)

pub returns : goal.returns
returns c =
    let a = c.args in
    rw (c.from-bytes.ensures, c.from-words.ensures, c.word_at.ensures) (shape_long a.frame.now c.if-n-lt-WRITE_OVERHEAD.false)
