-- The tests, by laws over any directory, as the rule at each item.
use mathlib.Core.Path.{refl}
use mathlib.Core.List.{List}
use lib.Dec.{T}
use Rattle.directory.specs.declared.Item.{Item}
use Rattle.directory.specs.Order.{shaped, meant, tested}
use Rattle.directory.specs.Rules.{DirectoryRules}
use Rattle.directory.proofs.Order.{every_at, apart, ruled_ascends}
use Rattle.directory.proofs.Views.{tested_ruled, tested_shaped, tested_meant}
use Rattle.directory.proofs.Finds.{found_here, found_starts}

pub directory_rules : (dir : List Item) → T (tested dir) → DirectoryRules dir
directory_rules dir t = record {
  apart = apart (ruled_ascends dir (tested_ruled dir t));
  shapes = every_at shaped dir (tested_shaped dir t);
  meanings = every_at meant dir (tested_meant dir t);
  found = λ i h. found_here (ruled_ascends dir (tested_ruled dir t)) _ i h refl;
  starts = found_starts dir;
}
