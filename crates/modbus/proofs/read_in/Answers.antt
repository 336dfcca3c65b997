-- Each return has its tests behind it, and a law of the definition for them.
use Rattle.std.proofs.Common.{◌∙◌}
use borrow.Author.Tests.{eq-eqb, ne_eqb}
use Rattle.modbus.proofs.Frames.{outside, read_length, read_number, read_run}
use Rattle.modbus.proofs.read_in.Goals as goal

pub returns-then-frame-ne-READ_LENGTH : goal.returns-then-frame-ne-READ_LENGTH
returns-then-frame-ne-READ_LENGTH c =
    read_length c.args.directory.now c.args.frame.now (ne_eqb _ _ c.if-frame-ne-READ_LENGTH.true)

pub returns-then-not-contains : goal.returns-then-not-contains
returns-then-not-contains c =
    read_number c.args.directory.now c.args.frame.now (eq-eqb _ _ c.if-frame-ne-READ_LENGTH.false) (rw (← c.word_at-words.ensures, ← c.most.ensures) (outside 1 c.word_at-words.result c.most.result (rw (c.new.ensures.start, c.new.ensures.end, c.new.ensures.exhausted) at c.if-not-contains.ensures.value)))

pub returns : goal.returns
returns c =
    c.run.ensures
    ∙ rw (c.word_at.ensures, c.word_at-words.ensures) (read_run c.args.directory.now c.args.frame.now (eq-eqb _ _ c.if-frame-ne-READ_LENGTH.false) (rw (← c.word_at-words.ensures, ← c.most.ensures) (outside 1 c.word_at-words.result c.most.result (rw (c.new.ensures.start, c.new.ensures.end, c.new.ensures.exhausted) at c.if-not-contains.ensures.value))))
