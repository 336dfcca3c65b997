-- The four numbers of an item stand in the table, and it is one of a directory.
use Rattle.std.proofs.Common.{◌∙◌, ap, length, get_or, List, ◌<◌, arith}
use Rattle.directory.specs.declared.Item.{Item}
use Rattle.directory.specs.Item.{items, none}
use Rattle.directory.specs.Order.{shaped, meant}
use Rattle.directory.proofs.Flat.{items_length}
use Rattle.directory.proofs.Order.{every_at}
use Rattle.directory.proofs.Items.at.Goals as goal

pub item_at-requires : goal.item_at-requires
item_at-requires c = omega (arith, items_length c.self.inside.numbers.now, ap (λ (its : List Item). length its) c.self.view_is)

pub returns-clause-value : goal.returns-clause-value
returns-clause-value c = c.item_at.ensures ∙ ap (λ (its : List Item). get_or its c.args.place none) c.self.view_is

pub returns-clause-ruled : goal.returns-clause-ruled
returns-clause-ruled c =
    let its = items c.self.inside.numbers.now in
    let below : c.args.place < length its = omega (arith, c.requires, ap (λ (its : List Item). length its) c.self.view_is) in
    rw c.item_at.ensures (every_at shaped its c.self.invariant.shapely c.args.place below, every_at meant its c.self.invariant.means c.args.place below)
