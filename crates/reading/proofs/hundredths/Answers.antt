-- The tests are the definition's own; a word's magnitude is far below a u64's tenth.
use Rattle.std.proofs.Common.{ap, ◌∙◌, Bool, true, false, cond, ℕ, ◌-◌, ◌≤◌, ◌<◌, arith}
use lib.Dec.{leb, ltb}
use Rattle.refusal.specs.declared.Refusal.TheVariants.{ValueImpossible}
use Rattle.signed.specs.declared.Signed.{Signed}
use Rattle.words.specs.Signed.{magnitude_in}
use Rattle.reading.specs.declared.Quantity.TheVariants.{Factor}
use Rattle.reading.specs.declared.Answer.{Answer}
use Rattle.reading.specs.declared.Answer.TheVariants.{Reading, Refused}
use Rattle.reading.specs.Readings.{times}
use Rattle.reading.proofs.hundredths.Goals as goal

-- what is read, where the magnitude is at most its top
abbrev read : ℕ → ℕ → Signed → Answer
read top unit s = cond (ltb top s.magnitude) (Refused ValueImpossible) (Reading (Factor (times unit s)))

magnitude_most : (v : ℕ) → v < 65536 → magnitude_in 1 v ≤ 65536
magnitude_most v h = by (leb 32768 v)
  where
    by : (b : Bool) → cond b (65536 - v) v ≤ 65536
    by true = omega arith
    by false = omega (arith, h)

pub overflow_mul-tenfold : goal.overflow_mul-tenfold
overflow_mul-tenfold c =
    omega (arith, ap (λ (c : Signed). c.magnitude) c.signed_in-s.ensures, magnitude_most c.args.value c.requires)

pub returns : goal.returns
returns c = c.unless.ensures ∙ ap (read 100 10) c.signed_in-s.ensures
