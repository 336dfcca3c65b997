-- The definition at its width: what makes a sum of 0 with the magnitude is all values less it, or 0.
use Rattle.std.proofs.Common.{◌≡◌, refl, true, false, arith}
use Rattle.words.specs.Signed.{twos}
use Rattle.words.proofs.twos_quad.Goals as goal

pub returns-then-negative : goal.returns-then-negative
unfolding twos
returns-then-negative c =
    let negative : c.args.negative ≡ true = c.if-negative.true in
    rw negative (omega (arith, c.wrapping_neg.ensures))

pub returns-else-negative : goal.returns-else-negative
unfolding twos
returns-else-negative c =
    let plain : c.args.negative ≡ false = c.if-negative.false in
    rw plain refl
