-- In each turn one item more is read; the first that is refused ends it.
use Rattle.std.proofs.Common.{◌≡◌, length}
use Rattle.collector.specs.Collector.{place_of, item_of}
use Rattle.collector.proofs.Turns.{Laid}
use Rattle.collector.proofs.whole.all_read.Given as goal

abbrev pub invariant-loop-i : goal.invariant-loop-i
invariant-loop-i l = (l.i-end ≡ length l.sent.asked) ×
    (l.at ≡ place_of l.sent.asked l.i) ×
    Laid (item_of l.sent.order l.sent.tenths l.sent.asked l.sent.reply.now) l.initial.cells l.initial.numbers l.cells l.numbers l.i
