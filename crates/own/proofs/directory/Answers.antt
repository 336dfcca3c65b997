-- The constant table is the directory, laid out flat.
use Rattle.std.proofs.Common.{◌∙◌}
use Rattle.directory.proofs.Flat.{flat}
use Rattle.own.specs.Table.{directory}
use Rattle.own.proofs.Rules.{own_view, own_lent}
use Rattle.own.proofs.directory.Goals as goal

pub of-requires : goal.of-requires
unfolding directory flat
of-requires c = own_lent

pub returns : goal.returns
unfolding directory flat
returns c = c.of.ensures ∙ own_view
