-- One word is the lower one; of two, the order says which goes first.
use Rattle.std.proofs.Common.{◌≡◌, arith}
use Rattle.words.specs.declared.Order.TheVariants.{UpperFirst, LowerFirst}
use Rattle.words.proofs.Laws.{sent_word, sent_upper, sent_lower}
use borrow.Author.Rules.{rules}
use Rattle.words.proofs.put.Goals as goal

pub returns-then-words-eq1 : goal.returns-then-words-eq1
returns-then-words-eq1 c =
    let one : c.args.words ≡ 1 = c.if-words-eq1.true in
    rw (one, sent_word) c.put_word.ensures

pub returns-in-UpperFirst : goal.returns-in-UpperFirst
returns-in-UpperFirst c =
    let two : c.args.words ≡ 2 = omega arith in
    let upper : c.args.order ≡ UpperFirst = c.in-UpperFirst.is in
    rw (two, upper, sent_upper c.args.v (search rules)) c.put_two.ensures

pub returns-in-LowerFirst : goal.returns-in-LowerFirst
returns-in-LowerFirst c =
    let two : c.args.words ≡ 2 = omega arith in
    let lower : c.args.order ≡ LowerFirst = c.in-LowerFirst.is in
    rw (two, lower, sent_lower c.args.v (search rules)) c.put_two-in-LowerFirst.ensures
