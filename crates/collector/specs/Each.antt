-- The items of one reply that fits its request: what each reads as.
use Rattle.std.specs.Prelude.{ℕ, List, length}
use Rattle.reading.specs.declared.Answer.{Answer}
use Rattle.collector.specs.declared.data.Data.{Data}
use Rattle.collector.specs.Collector.{item_of}
use Rattle.collector.specs.Whole.{in_turn}

-- what the item of an index reads as
abbrev pub item_in : Data → ℕ → Answer
item_in d = item_of d.order d.tenths d.asked d.reply.now

-- and every item in turn
abbrev pub items_in : Data → List Answer
items_in d = in_turn (length d.asked) (item_in d)
