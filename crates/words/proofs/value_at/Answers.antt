-- By the width: one word, or the upper one times 65,536 and the lower, whichever is first.
use Rattle.std.proofs.Common.{◌≡◌, refl, arith}
use Rattle.words.specs.declared.Order.TheVariants.{UpperFirst, LowerFirst}
use Rattle.words.proofs.Laws.{value_word, value_upper, value_lower}
use Rattle.words.proofs.value_at.Goals as goal

pub returns-then-words-eq1 : goal.returns-then-words-eq1
returns-then-words-eq1 c =
    let one : c.args.words ≡ 1 = c.if-words-eq1.true in
    rw (one, value_word, c.from-first.ensures) c.word_at.ensures

pub returns-in-UpperFirst : goal.returns-in-UpperFirst
returns-in-UpperFirst c =
    let two : c.args.words ≡ 2 = omega arith in
    let upper : c.args.order ≡ UpperFirst = c.in-UpperFirst.is in
    rw (two, upper, value_upper, c.from-first.ensures, c.word_at.ensures, c.from-second.ensures, c.word_at-2.ensures) refl

pub returns-in-LowerFirst : goal.returns-in-LowerFirst
returns-in-LowerFirst c =
    let two : c.args.words ≡ 2 = omega arith in
    let lower : c.args.order ≡ LowerFirst = c.in-LowerFirst.is in
    rw (two, lower, value_lower, c.from-first.ensures, c.word_at.ensures, c.from-second.ensures, c.word_at-2.ensures) refl
