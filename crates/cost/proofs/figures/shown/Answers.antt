-- The own directory has 148 items.
use lib.ListN.{length}
use Rattle.std.proofs.Common.{ap, arith}
use Rattle.directory.specs.Views.{View}
use Rattle.own.proofs.Rules.{directory_count}
use Rattle.cost.proofs.figures.shown.Goals as goal

pub item-it-requires : goal.item-it-requires
item-it-requires c = omega (arith, ap (λ (v : View). length v.seen) c.directory-directory.ensures, directory_count)
