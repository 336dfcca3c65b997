-- A code is printed as its number in two digits and its words, of which each arm has its own.
use Rattle.std.proofs.Common.{◌≡◌, ℕ, List, ◌++◌, codes, ap, rules}
use Rattle.std.specs.Fmt.{styled_decimal}
use Rattle.std.proofs.Output.{has_written_append, has_written_of_eq}
use Rattle.refusal.proofs.Shown.{two_wide}
use Rattle.refusal.specs.Words.{error_words, error_text}
use Rattle.refusal.proofs.ErrorCodeDisplay.fmt.Goals as goal
use Rattle.refusal.proofs.ErrorCodeDisplay.fmt.Goals.{in-Function, in-Address, in-Data}

pub returns-clause-writes : goal.returns-clause-writes
returns-clause-writes g c =
    let words : c.match-self.write_str.now ≡ error_words c.args.self.now = elim c.match-self.branch [
      | in-Function w ↦ search rules
      | in-Address w ↦ search rules
      | in-Data w ↦ search rules
    ] in
    let text : codes "error " ++ styled_decimal c.laid_out.result c.number.result ++ codes ", " ++ c.match-self.write_str.now ≡ error_text c.args.self.now =
    rw (c.laid_out.ensures, words, ← c.number.ensures)
    (ap (λ (shown : List ℕ). codes "error " ++ shown ++ codes ", " ++ error_words c.args.self.now) (two_wide c.number.result)) in
    λ plain ok.
    let first = c.in_ok-write.ensures.writes plain (search rules) in
    let last = c.write_str.ensures.writes first.plain ok in
    has_written_of_eq _ _ _ _ _ text (has_written_append _ _ _ _ _ _ first last)
