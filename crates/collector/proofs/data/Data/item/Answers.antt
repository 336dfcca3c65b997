-- The item is the one asked, its place that of the definition, and its words stand in the reply.
use lib.ListN.{length}
use Rattle.std.proofs.Common.{sym, ap₂, ◌∙◌, arith, ◌<◌, ℕ}
use Rattle.words.specs.Words.{value_at}
use Rattle.directory.specs.declared.Item.{Item}
use Rattle.reading.specs.Readings.{reading_of}
use Rattle.collector.proofs.Places.{known, item_past, item_reads}
use Rattle.collector.proofs.data.Data.item.Goals as goal

pub returns-then-len-index : goal.returns-then-len-index
returns-then-len-index c =
    let d = c.args.self.now in
    item_past d.order d.tenths d.asked d.reply.now c.args.index (omega (arith, c.len.ensures.value))

pub reading-requires-clause-words_there : goal.reading-requires-clause-words_there
reading-requires-clause-words_there c =
    let d = c.args.self.now in
    let below : c.args.index < length d.asked = omega (arith, c.len.ensures.value) in
    let k = known d.asked d.reply.now c.len.ensures.ruled d.fits c.args.index c.place-at.result c.at-it.result below c.place-at.ensures c.at-it.ensures.value in
    (k.room, (k.narrow.some, k.narrow.few))

pub returns : goal.returns
returns c =
    let d = c.args.self.now in
    let below : c.args.index < length d.asked = omega (arith, c.len.ensures.value) in
    c.reading.ensures
    ∙ ap₂ (λ (it : Item) (at : ℕ). reading_of d.tenths it (value_at d.order it.words d.reply.now at)) c.at-it.ensures.value c.place-at.ensures
    ∙ sym (item_reads d.order d.tenths d.asked d.reply.now c.args.index below)
