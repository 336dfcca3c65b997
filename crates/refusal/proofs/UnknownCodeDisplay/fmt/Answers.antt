-- A number that is no code is printed in two digits at least.
use Rattle.std.proofs.Common.{◌≡◌, ℕ, List, ◌++◌, codes, ap}
use Rattle.std.specs.Fmt.{styled_decimal}
use Rattle.std.proofs.Output.{has_written_of_eq}
use Rattle.refusal.specs.Words.{unknown_code_text}
use Rattle.refusal.proofs.Shown.{two_wide}
use Rattle.refusal.proofs.UnknownCodeDisplay.fmt.Goals as goal

pub returns-clause-writes : goal.returns-clause-writes
returns-clause-writes g c =
    let text : codes "no error has code " ++ styled_decimal c.laid_out.result c.args.self.now.0 ≡ unknown_code_text c.args.self.now =
    rw c.laid_out.ensures (ap (λ (shown : List ℕ). codes "no error has code " ++ shown) (two_wide c.args.self.now.0)) in
    λ plain ok. has_written_of_eq _ _ _ _ _ text (c.write.ensures.writes plain ok)
