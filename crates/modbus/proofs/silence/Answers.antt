-- The rules are looked at in another order than the paper has them, which makes no difference to whether one of them holds.
use Rattle.std.proofs.Common.{arith, length}
use borrow.Author.Tests.{le-leb, lt-leb}
use Rattle.modbus.specs.Frame.{function_of}
use Rattle.modbus.proofs.Frames.{by_length, by_address, by_function, by_crc, long_enough, outside}
use Rattle.modbus.proofs.silence.Goals as goal

pub returns-then-not-contains : goal.returns-then-not-contains
returns-then-not-contains c = by_length c.args.own c.args.frame.now (outside 4 (length c.args.frame.now) 256 (rw (c.new.ensures.start, c.new.ensures.end, c.new.ensures.exhausted) at c.if-not-contains.ensures.value))

pub bounds-frame-0 : goal.bounds-frame-0
bounds-frame-0 c =
    omega (arith, long_enough c.args.own c.args.frame.now (outside 4 (length c.args.frame.now) 256 (rw (c.new.ensures.start, c.new.ensures.end, c.new.ensures.exhausted) at c.if-not-contains.ensures.value)))

pub returns-then-address-own : goal.returns-then-address-own
returns-then-address-own c = by_address c.args.own c.args.frame.now c.if-address-own.true

pub bounds-frame-1 : goal.bounds-frame-1
bounds-frame-1 c =
    omega (arith, long_enough c.args.own c.args.frame.now (outside 4 (length c.args.frame.now) 256 (rw (c.new.ensures.start, c.new.ensures.end, c.new.ensures.exhausted) at c.if-not-contains.ensures.value)))

pub returns-then-frame-ge-ERROR_FLAG : goal.returns-then-frame-ge-ERROR_FLAG
returns-then-frame-ge-ERROR_FLAG c = by_function c.args.own c.args.frame.now (le-leb 0x80 (function_of c.args.frame.now) (omega arith))

pub returns : goal.returns
returns c =
    let a = c.args in
    let quiet = by_crc a.own a.frame.now (outside 4 (length c.args.frame.now) 256 (rw (c.new.ensures.start, c.new.ensures.end, c.new.ensures.exhausted) at c.if-not-contains.ensures.value)) c.if-address-own.false (lt-leb 0x80 (function_of a.frame.now) (omega arith)) in
    rw c.intact.ensures quiet
