-- `with` is 64 shifts of the eight bytes as one number.
use Rattle.std.proofs.Common.{rules, sym, ap, ◌∙◌, ℕ}
use lib.Bits.{bit_xor}
use Rattle.crc.specs.Crc.{shifts}
use Rattle.eight.specs.AtOnce.{run, spread, settled}
use Rattle.eight.proofs.AtOnce.{eight, turn}
use Rattle.eight.proofs.Parts.with.Goals as goal

pub returns : goal.returns
returns c =
    let x = c.args.self.remainder in
    let p = c.args.self.parity in
    let w = c.from_le_bytes-w.result in
    ap (λ (y : ℕ). settled (bit_xor y w) (bit_xor p w)) (c.spread.ensures ∙ ap (run spread) c.folded.ensures)
    ∙ turn x p w (search rules) (search rules)
    ∙ ap (λ (v : ℕ). shifts 64 (bit_xor (settled x p) v)) c.from_le_bytes-w.ensures
    ∙ sym (eight (settled x p) c.args.eight (search rules) (search rules))
