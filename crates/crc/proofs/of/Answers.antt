-- `of` is the written CRC, since it goes on from 0xFFFF over all bytes.
use Rattle.crc.proofs.of.Goals as goal

pub returns : goal.returns
returns c = c.continued.ensures
