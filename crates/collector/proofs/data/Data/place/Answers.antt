-- In each turn the words of one item more are passed; they stand in the reply.
use lib.ListN.{take, get_or}
use Rattle.std.proofs.Common.{◌≡◌, refl, ap, ◌∙◌, arith, add-one, ℕ, ◌+◌, ◌*◌}
use Rattle.directory.specs.declared.Item.{Item}
use Rattle.directory.specs.Item.{none}
use Rattle.directory.specs.Run.{words_of}
use Rattle.collector.proofs.Places.{words_upto, words_within}
use Rattle.collector.proofs.data.Data.place.Goals as goal

pub loop-i-init : goal.loop-i-init
unfolding words_of
loop-i-init c = refl

pub overflow_add-at : goal.overflow_add-at
overflow_add-at c =
    let its = c.args.self.now.asked in
    let i = c.loop-i.i in
    let here : c.from.result ≡ (get_or its i none).words = c.from.ensures ∙ ap (λ (it : Item). it.words) c.at.ensures.value in
    omega (arith, here, c.loop-i.invariant, words_within its i (omega (arith, c.requires)), c.args.self.now.fits)

pub loop-i-preserved : goal.loop-i-preserved
loop-i-preserved c =
    let its = c.args.self.now.asked in
    let i = c.loop-i.i in
    let here : c.from.result ≡ (get_or its i none).words = c.from.ensures ∙ ap (λ (it : Item). it.words) c.at.ensures.value in
    rw (add-one i) (omega (arith, here, c.loop-i.invariant, words_upto its i (omega (arith, c.requires))))

pub returns : goal.returns
returns c =
    let all : c.loop-i.i ≡ c.args.index = omega arith in
    c.loop-i.invariant ∙ ap (λ (n : ℕ). 3 + 2 * words_of (take n c.args.self.now.asked)) all
