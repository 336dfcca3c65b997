-- `parity` is that of the number of bits set.
use Rattle.std.proofs.Common.{◌∙◌}
use Rattle.eight.proofs.AtOnce.{parity_is}
use Rattle.eight.proofs.parity.Goals as goal

pub returns : goal.returns
returns c = c.from.ensures ∙ parity_is c.args.x c.ranges.x.fits
