-- The length of the line, of what is left from the place on; behind the input nothing is left.
use lib.ListN.{length, drop}
use Rattle.std.proofs.Common.{◌≡◌, ◌∙◌, ◌≤◌, rules, arith}
use Rattle.std.proofs.lemmas.Slice.{between_to_end}
use Rattle.lines.proofs.Ends.{line_is, none_left}
use Rattle.lines.proofs.line_end.Goals as goal

pub returns-in-Some : goal.returns-in-Some
returns-in-Some c =
    let rest : c.in-Some.rest.now ≡ drop c.args.from c.args.input.now = c.in-Some.ensures.lookup.0.2 ∙ between_to_end c.args.input.now c.args.from (length c.args.input.now) (omega arith) in
    rw (← rest, line_is c.in-Some.rest.now c.before_feed.result c.before_feed.ensures.within c.before_feed.ensures.before c.before_feed.ensures.found)

pub returns-in-None : goal.returns-in-None
returns-in-None c =
    let none : length c.args.input.now ≤ c.args.from = search rules in
    omega (arith, none_left c.args.input.now c.args.from none)
