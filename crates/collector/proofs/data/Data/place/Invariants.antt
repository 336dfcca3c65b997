-- In each turn the words of one item more are passed.
use Rattle.std.proofs.Common.{◌≡◌}
use Rattle.collector.specs.Collector.{place_of}
use Rattle.collector.proofs.data.Data.place.Given as goal

abbrev pub invariant-loop-i : goal.invariant-loop-i
invariant-loop-i l = l.at ≡ place_of l.self.asked l.i
