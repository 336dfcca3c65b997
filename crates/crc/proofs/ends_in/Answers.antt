-- `ends_in` is the written test: a frame below two bytes fails it, and of a longer one both last bytes are compared with those of the CRC.
use Rattle.std.proofs.Common.{◌∙◌}
use Rattle.crc.proofs.Laws.{ends_line}
use Rattle.crc.proofs.ends_in.Goals as goal

pub returns : goal.returns
returns c = c.ends_with.ensures.value ∙ rw c.to_le_bytes.ensures (ends_line c.args.frame.now c.args.crc c.ranges.crc.fits)
