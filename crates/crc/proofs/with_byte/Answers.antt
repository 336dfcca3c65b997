-- `with_byte` makes the eight written shifts.
use Rattle.std.proofs.Common.{rules, refl, ap, ◌∙◌, ℕ}
use Rattle.std.proofs.lemmas.Iterator.{YieldsList-from_range}
use Rattle.std.proofs.lemmas.Iterator.Consumers.{fold_from_yields_List}
use Rattle.std.specs.Int.Bits.{bit_xor}
use Rattle.crc.specs.Crc.{shift, shifts}
use Rattle.crc.proofs.with_byte.Goals as goal

pub returns : goal.returns
unfolding shifts
returns c =
    fold_from_yields_List _ (λ c k. shift c) _ c.fold.result c.fold.ensures.ran (YieldsList-from_range 0 8 8 refl refl) (λ a x b q k. search rules)
    ∙ ap (λ (b : ℕ). shifts 8 (bit_xor c.args.crc b)) c.from.ensures
