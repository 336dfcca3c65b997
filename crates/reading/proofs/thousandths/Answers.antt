-- The test is the definition's own.
use Rattle.std.proofs.Common.{ap, ◌∙◌, cond}
use lib.Dec.{ltb}
use Rattle.refusal.specs.declared.Refusal.TheVariants.{ValueImpossible}
use Rattle.signed.specs.declared.Signed.{Signed}
use Rattle.reading.specs.declared.Quantity.TheVariants.{Factor}
use Rattle.reading.specs.declared.Answer.TheVariants.{Reading, Refused}
use Rattle.reading.proofs.thousandths.Goals as goal

pub returns : goal.returns
returns c = c.unless.ensures ∙ ap (λ (s : Signed). cond (ltb 1000 s.magnitude) (Refused ValueImpossible) (Reading (Factor s))) c.signed_in-s.ensures
