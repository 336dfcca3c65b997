-- Four numbers are an item.
use Rattle.std.proofs.Common.{sym, subst, ap, ◌∙◌, length, List}
use Rattle.directory.specs.declared.Item.{Item}
use Rattle.directory.specs.Views.{Asked}
use Rattle.directory.proofs.Flat.{items_length}
use Rattle.directory.proofs.Items.len.Goals as goal

pub returns : goal.returns
returns c = record {
  value = sym (items_length c.self.inside.numbers.now) ∙ ap (λ (its : List Item). length its) c.self.view_is;
  ruled = subst (λ (its : List Item). Asked its) c.self.view_is c.self.invariant;
}
