-- Four numbers from 4 × i on are the item of index i.
use Rattle.std.proofs.Common.{sym, arith}
use Rattle.directory.proofs.Flat.{item_of}
use Rattle.directory.proofs.item_at.Goals as goal

pub returns : goal.returns
returns c = sym (item_of c.args.table.now c.args.i (omega arith))
