-- The words that are left to read, stored behind those that were, are all of them; they fill the array, so nothing of it is left.
use lib.ListN.{length}
use Rattle.std.proofs.Common.{refl, sym, ap, ◌∙◌, ◌+◌, ◌*◌, arith}
use native.Mathlib.Nat.{sub-zero}
use lib.Seq.{sets}
use Rattle.modbus.specs.Frame.{words_at}
use Rattle.modbus.proofs.Stores.{sets_whole}
use Rattle.modbus.proofs.Rows.{length_words, sets_words, words_none}
use Rattle.modbus.proofs.values.Goals as goal

pub loop-i-init : goal.loop-i-init
loop-i-init c = rw (sub-zero (length c.args.into.now)) refl

pub loop-i-preserved : goal.loop-i-preserved
loop-i-preserved c =
    let l = c.loop-i in
    rw c.word_at.ensures (sym (sets_words l.into (length c.args.into.now) l.i 7 c.args.frame.now (omega arith)) ∙ l.invariant)

pub returns : goal.returns
unfolding words_at
returns c = let a = c.args in
    let n = length a.into.now in
    let l = c.loop-i in
    let none_left = words_none n l.i (7 + 2 * l.i) a.frame.now (omega arith) in
    let whole = sets_whole a.into.now (words_at n a.frame.now 7) (length_words n a.frame.now 7) in
    sym (ap (sets l.into l.i) none_left) ∙ l.invariant ∙ whole
