-- `settled` is what its parts say, put together.
use Rattle.std.proofs.Common.{ap, ◌∙◌, ℕ, ◌%◌, ◌^◌}
use lib.Bits.{bit_xor}
use Rattle.eight.specs.AtOnce.{run, narrowed, parity, mended, settled}
use Rattle.eight.proofs.Parts.settled.Goals as goal

pub returns : goal.returns
unfolding settled
returns c =
    let r = c.narrowed-r.result in
    let p = c.args.self.parity in
    ap (λ (odd : ℕ). bit_xor r (run mended odd) % 2 ^ 16) c.parity-odd.ensures
    ∙ ap (λ (n : ℕ). bit_xor n (run mended (run parity (bit_xor p n))) % 2 ^ 16)
    (c.narrowed-r.ensures ∙ ap (run narrowed) c.folded.ensures)
