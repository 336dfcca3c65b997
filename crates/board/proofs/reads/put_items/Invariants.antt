-- What was written, with what is left written behind it, is all of it written; an item sends one word or two.
use lib.ListN.{length, drop}
use Rattle.std.proofs.Common.{◌≡◌, ◌+◌, ◌*◌}
use lib.Seq.{sets}
use Rattle.directory.specs.Run.{words_of}
use Rattle.registers.specs.Shown.{shown_of}
use Rattle.board.specs.Reads.{items_sent}
use Rattle.board.proofs.reads.put_items.Given as goal

abbrev pub invariant-loop-i : goal.invariant-loop-i
invariant-loop-i l = (length l.buffer ≡ length l.initial.buffer) ×
    (l.at + 2 * words_of (drop l.i l.asked) ≡ 3 + 2 * words_of l.asked) ×
    (sets l.buffer l.at (items_sent l.sound.meter.given.order (shown_of l.sound.meter) (drop l.i l.asked)) ≡ sets l.initial.buffer 3 (items_sent l.sound.meter.given.order (shown_of l.sound.meter) l.asked))
