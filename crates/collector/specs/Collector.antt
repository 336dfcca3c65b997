-- Paper 01, "Collector": a request, the reply to it, KTA, KTV and an item index in; the answer out, in the paper's reading order:
-- 3, 7 to 11, the error code, 12, 13. It goes by a view, the directory and the most words of the meter that was asked. Paper 02, request 5:
-- it is told the order of words too.
use Rattle.std.specs.Prelude.{ℕ, ◌+◌, ◌*◌, not, cond, List, ltb, length, get_or, take, Result, Ok, Err}
use Rattle.refusal.specs.declared.Refusal.TheVariants.{IndexPastItems}
use Rattle.words.specs.declared.Order.{Order}
use Rattle.words.specs.Words.{value_at}
use Rattle.ratio.specs.Ratios.{t_of}
use Rattle.directory.specs.declared.Item.{Item}
use Rattle.directory.specs.declared.Span.{Span}
use Rattle.directory.specs.Item.{none}
use Rattle.directory.specs.Run.{run_items, words_of}
use Rattle.directory.specs.Views.{View}
use Rattle.own.specs.Own.{own}
use Rattle.reading.specs.declared.Answer.{Answer}
use Rattle.reading.specs.declared.Answer.TheVariants as answer
use Rattle.reading.specs.Readings.{reading_of}
use Rattle.replies.specs.declared.Unread.{Unread}
use Rattle.replies.specs.Judged.{unread, judged_in}
use Rattle.collector.specs.declared.Nameplate.{Nameplate}

-- where an item's words stand: behind address, function and byte number, and behind the words of the items before it
abbrev pub place_of : List Item → ℕ → ℕ
place_of its index = 3 + 2 * words_of (take index its)

-- 12. index not below the number of items. 13 or the reading, of the item asked alone; two words are joined by the order
unfoldable pub item_of : Order → ℕ → List Item → List ℕ → ℕ → Answer
item_of o t its reply index =
    cond (not (ltb index (length its))) (answer.Refused IndexPastItems)
    (reading_of t (get_or its index none) (value_at o (get_or its index none).words reply (place_of its index)))

-- data is read item by item; the error code and a refusal are handed on
abbrev pub on_data : View → Result Span Unread → (List Item → Answer) → Answer
on_data v (Ok asked) go = go (run_items v.seen asked.first asked.count)
on_data v (Err why) go = unread why

-- what the collector gives, over a view and told a meter's nameplate: 3, 7 to 11 or the error code; else 12, 13 or the reading of the item
-- asked
unfoldable pub collector_in : View → List ℕ → List ℕ → Nameplate → ℕ → Answer
collector_in v request reply plate index =
    on_data v (judged_in v request reply plate.ratios) (λ its. item_of plate.order (t_of plate.ratios) its reply index)

-- what the collector gives of a meter with paper 01's own directory
abbrev pub collector_of : List ℕ → List ℕ → Nameplate → ℕ → Answer
collector_of request reply plate index = collector_in own request reply plate index
