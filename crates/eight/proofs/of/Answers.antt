-- `of` is the written CRC: that of the whole eights goes on over the rest to that of all bytes.
use Rattle.std.proofs.Common.{◌∙◌}
use Rattle.eight.proofs.AtOnce.{whole}
use Rattle.eight.proofs.of.Goals as goal

pub returns : goal.returns
returns c =
    let parts = c.as_chunks.ensures in
    c.continued.ensures
    ∙ whole c.args.bytes.now _ _ c.whole_eights-crc.result parts.front parts.back c.whole_eights-crc.ensures
