-- The lowest words of what `twos_quad` answers.
use Rattle.std.proofs.Common.{arith}
use Rattle.words.proofs.Signs.{lowest_word}
use Rattle.words.proofs.twos_word.Goals as goal

pub returns : goal.returns
returns c = rw (c.twos_quad.ensures, c.from.ensures) (lowest_word c.args.negative c.args.magnitude (omega arith))
