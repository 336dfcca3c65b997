-- `continued` is the written CRC, gone on with: a fold over the bytes, each of which makes eight shifts.
use Rattle.std.proofs.Common.{rules, ◌≡◌, ◌∙◌}
use Rattle.std.specs.List.{fold}
use Rattle.std.specs.Int.Bits.{bit_xor}
use Rattle.crc.specs.Crc.{shifts}
use Rattle.crc.proofs.Laws.{from_is_fold}
use Rattle.crc.proofs.continued.Goals as goal

pub returns : goal.returns
returns c =
    let e : c.fold.result ≡ fold (λ c b. shifts 8 (bit_xor c b)) c.args.crc c.args.bytes.now = search rules in
    e ∙ from_is_fold c.args.crc c.args.bytes.now
