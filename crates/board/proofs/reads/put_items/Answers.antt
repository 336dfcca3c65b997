-- What was written, with what is left written behind it, is all of it written; an item sends one word or two.
use lib.ListN.{length, drop, drop_of_length-le}
use Rattle.std.proofs.Common.{◌≡◌, sym, ap, ◌∙◌, List, ℕ, ◌+◌, ◌*◌, ◌<◌, arith}
use lib.Seq.{sets, length-sets}
use Rattle.words.specs.Words.{sent}
use Rattle.directory.specs.declared.Item.{Item}
use Rattle.directory.specs.Run.{words_of}
use Rattle.directory.proofs.Order.{Narrow}
use Rattle.directory.proofs.Shapes.{shape_narrow}
use Rattle.registers.specs.Shown.{shown_of}
use Rattle.board.specs.Reads.{items_sent}
use Rattle.board.proofs.Sent.{words_on, sent_on}
use Rattle.board.proofs.reads.put_items.Goals as goal

pub put-requires : goal.put-requires
put-requires c =
    let below : c.loop-i.i < length c.args.asked.now = omega (arith, c.len-i-end.ensures.value) in
    let narrow : Narrow c.at-it.result = shape_narrow c.at-it.result c.at-it.ensures.ruled.0 in
    let passed : words_of (drop c.loop-i.i c.args.asked.now) ≡ c.at-it.result.words + words_of (drop (c.loop-i.i + 1) c.args.asked.now) = words_on c.args.asked.now c.loop-i.i below
    ∙ ap (λ (it : Item). it.words + words_of (drop (c.loop-i.i + 1) c.args.asked.now)) (sym c.at-it.ensures.value) in
    let w = c.from-width.ensures in
    (omega (arith, w, passed, c.loop-i.invariant.0, c.loop-i.invariant.1, c.requires), (omega (arith, w, narrow.some), omega (arith, w, narrow.few)))

pub loop-i-preserved : goal.loop-i-preserved
loop-i-preserved c =
    let below : c.loop-i.i < length c.args.asked.now = omega (arith, c.len-i-end.ensures.value) in
    let l = c.loop-i in
    let it = c.at-it.result in
    let w = c.from-width.ensures in
    let passed : words_of (drop l.i c.args.asked.now) ≡ it.words + words_of (drop (l.i + 1) c.args.asked.now) = words_on c.args.asked.now l.i below
    ∙ ap (λ (x : Item). x.words + words_of (drop (l.i + 1) c.args.asked.now)) (sym c.at-it.ensures.value) in
    let wrote : c.put.new.buffer ≡ sets l.buffer l.at (sent c.args.sound.meter.given.order it.words (shown_of c.args.sound.meter it.quantity)) =
    c.put.ensures ∙ ap (λ (n : ℕ). sets l.buffer l.at (sent c.args.sound.meter.given.order n c.shown.result)) w ∙ ap (λ (v : ℕ). sets l.buffer l.at (sent c.args.sound.meter.given.order it.words v)) c.shown.ensures in
    (ap length wrote ∙ length-sets l.buffer l.at (sent c.args.sound.meter.given.order it.words (shown_of c.args.sound.meter it.quantity)) ∙ l.invariant.0, omega (arith, w, passed, l.invariant.1), ap (λ (n : ℕ). sets c.put.new.buffer (l.at + 2 * n) (items_sent c.args.sound.meter.given.order (shown_of c.args.sound.meter) (drop (l.i + 1) c.args.asked.now))) w ∙ sent_on c.args.asked.now l.i below c.args.sound.meter.given.order (shown_of c.args.sound.meter) l.buffer _ l.at it c.at-it.ensures.value wrote ∙ l.invariant.2)

pub returns-clause-value : goal.returns-clause-value
unfolding words_of
returns-clause-value c =
    let none_left = drop_of_length-le c.args.asked.now {i = c.loop-i.i} (omega (arith, c.len-i-end.ensures.value)) in
    omega (arith, c.loop-i.invariant.1, ap words_of none_left)

pub returns-clause-buffer_after : goal.returns-clause-buffer_after
unfolding items_sent
returns-clause-buffer_after c =
    let l = c.loop-i in
    let none_left = drop_of_length-le c.args.asked.now {i = l.i} (omega (arith, c.len-i-end.ensures.value)) in
    sym (ap (λ (x : List Item). sets l.buffer l.at (items_sent c.args.sound.meter.given.order (shown_of c.args.sound.meter) x)) none_left) ∙ l.invariant.2
