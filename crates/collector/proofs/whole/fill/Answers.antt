-- The tests are the definition's own; what is laid out in the rows was read from the items in turn.
use lib.ListN.{length, take, drop, replicate, length-map}
use Rattle.std.proofs.Common.{◌≡◌, Result, Ok, Err, ◌++◌, sym, ap, ap₂, subst, ◌∙◌, arith, true, false, ◌||◌, List, map, ℕ, ◌≤◌}
use lib.Dec.{ltb}
use lib.Seq.{sets, length-take-le}
use borrow.Author.Tests.{ltb-false}
use Rattle.std.proofs.lemmas.Result.{err_from_is_err_and}
use Rattle.refusal.specs.declared.Refusal.{Refusal}
use Rattle.refusal.specs.declared.Refusal.TheVariants.{ValueImpossible}
use Rattle.directory.specs.Run.{words_of}
use Rattle.directory.specs.Views.{Asked}
use Rattle.modbus.proofs.Frames.{neither}
use Rattle.modbus.proofs.Stores.{sets_front, sets_taken}
use Rattle.reading.specs.Told.{kind_of}
use Rattle.reading.specs.Cells.{cell_of}
use Rattle.replies.specs.declared.Unread.{Unread}
use Rattle.replies.specs.declared.Unread.TheVariants.{Refused}
use Rattle.collector.specs.declared.data.Data.{Data}
use Rattle.reading.specs.declared.Answer.{Answer}
use Rattle.collector.specs.Collector.{item_of}
use Rattle.collector.specs.Whole.{in_turn, any_thirteen, readings_in, Rows, kept_by}
use Rattle.collector.proofs.When.{item_possible}
use Rattle.collector.proofs.Turns.{turns_length, turns_read, read_length, read_all, laid_length}
use Rattle.collector.proofs.Rows.{short, short_kept, refused_kept, all_filled, allowed, few_items, verdict, passed, refused}
use Rattle.collector.proofs.whole.fill.Goals as goal

-- the calls one by one
abbrev turns : Data → List Answer
turns d = in_turn (length d.asked) (item_of d.order d.tenths d.asked d.reply.now)

-- there are as many as items
count : (d : Data) (n : ℕ) → n ≡ length d.asked → n ≡ length (turns d)
count d n e = e ∙ sym (turns_length (length d.asked) (item_of d.order d.tenths d.asked d.reply.now))

pub returns-then-values-n : goal.returns-then-values-n
returns-then-values-n c =
    let d = c.args.sent.now in
    let h = subst (λ (n : ℕ). (ltb (length c.args.values.now) n || ltb (length c.args.kinds.now) n) ≡ true) (count d _ c.len-n.ensures.value) c.if-values-n.true in
    allowed (ap (λ (why : Unread). kept_by (Err why) c.args.values.now c.args.kinds.now) c.into.ensures ∙ sym (short_kept (turns d) c.args.values.now c.args.kinds.now h))

pub all_read-requires : goal.all_read-requires
all_read-requires c =
    let d = c.args.sent.now in
    let few : length d.asked ≤ 125 = omega (arith, few_items d.asked c.len-n.ensures.ruled.shapely, c.requires) in
    (few, few)

pub returns-in_err-all_read : goal.returns-in_err-all_read
returns-in_err-all_read c =
    let d = c.args.sent.now in
    let roomy : short (turns d) c.args.values.now c.args.kinds.now ≡ false = subst (λ (n : ℕ). (ltb (length c.args.values.now) n || ltb (length c.args.kinds.now) n) ≡ false) (count d _ c.len-n.ensures.value) c.if-values-n.false in
    let any = refused (any_thirteen (turns d)) _ _ tt _ c.all_read.ensures.value c.in_err-all_read.was in
    let p = err_from_is_err_and c.from_residual.result c.from_residual.ensures.1 in
    allowed
    (ap (λ (r : Result ℕ Unread). kept_by r c.args.values.now c.args.kinds.now) (p.1 ∙ ap Err (p.2 ∙ ap Refused any.1))
    ∙ sym (refused_kept (turns d) c.args.values.now c.args.kinds.now roomy any.0))

-- all items were read
read : (d : Data) (r : Result Unit Refusal) (y : Unit) → r ≡ verdict (any_thirteen (turns d)) ValueImpossible tt → r ≡ Ok y → (any_thirteen (turns d) ≡ false) × (r ≡ Ok tt)
read d r y = passed (any_thirteen (turns d)) ValueImpossible tt y r

-- a row that was laid out from its start on has what was laid out
laid : (l r vs : List ℕ) (n : ℕ) → r ≡ sets l 0 vs → length vs ≡ n → n ≤ length l → take n r ≡ vs
laid l r vs n h long room = ap₂ take (sym long) h ∙ sets_taken l vs (omega (arith, long, room))

-- what was copied to the start of a row was laid out there
copied : (row front vs : List ℕ) (n : ℕ) → front ≡ vs → length vs ≡ n → n ≤ length row → front ++ drop n row ≡ sets row 0 vs
copied row front vs n h long room = ap₂ (λ (f : List ℕ) (k : ℕ). f ++ drop k row) h (sym long) ∙ sym (sets_front row vs (omega (arith, long, room)))

-- all calls gave a reading, so there are as many readings
many : (d : Data) → any_thirteen (turns d) ≡ false → length (readings_in (turns d)) ≡ length d.asked
many d none =
    let ask = item_of d.order d.tenths d.asked d.reply.now in
    let r = turns_read (length d.asked) ask (λ i b. item_possible d.order d.tenths d.asked d.reply.now i b) none in
    ap length (read_all (length d.asked) ask r.0 r.1) ∙ read_length (length d.asked) ask r.0 r.1

-- a row of 125 that was laid out has room for n
room : (r vs : List ℕ) (n : ℕ) → r ≡ sets (replicate 125 0) 0 vs → n ≤ 125 → n ≤ length r
room r vs n h few = omega (arith, laid_length (replicate 125 0) r vs h, few)

-- both rows lent have, too
rows : (values kinds : List ℕ) (n : ℕ) → (ltb (length values) n || ltb (length kinds) n) ≡ false → (n ≤ length values) × (n ≤ length kinds)
rows values kinds n h = let t = neither (ltb (length values) n) (ltb (length kinds) n) h in (ltb-false _ _ t.0, ltb-false _ _ t.1)

-- no more items than words
few : (d : Data) (n : ℕ) → n ≡ length d.asked → Asked d.asked → words_of d.asked ≤ 125 → n ≤ 125
few d n e good most = omega (arith, e, few_items d.asked good.shapely, most)

pub slice_bounds-cells-end : goal.slice_bounds-cells-end
slice_bounds-cells-end c =
    room _ (map cell_of (readings_in (turns c.args.sent.now))) _ (c.all_read.ensures.cells_after (read c.args.sent.now _ _ c.all_read.ensures.value c.in_ok-all_read.was).1) (few c.args.sent.now _ c.len-n.ensures.value c.len-n.ensures.ruled c.requires)

pub slice_bounds-copy_from_slice-end-3 : goal.slice_bounds-copy_from_slice-end-3
slice_bounds-copy_from_slice-end-3 c =
    let r = room _ (map cell_of (readings_in (turns c.args.sent.now))) _ (c.all_read.ensures.cells_after (read c.args.sent.now _ _ c.all_read.ensures.value c.in_ok-all_read.was).1) (few c.args.sent.now _ c.len-n.ensures.value c.len-n.ensures.ruled c.requires) in
    sym (length-take-le c.len-n.result c.all_read.new.cells r)

pub copy_from_slice-requires : goal.copy_from_slice-requires
copy_from_slice-requires c =
    let r = room _ (map cell_of (readings_in (turns c.args.sent.now))) _ (c.all_read.ensures.cells_after (read c.args.sent.now _ _ c.all_read.ensures.value c.in_ok-all_read.was).1) (few c.args.sent.now _ c.len-n.ensures.value c.len-n.ensures.ruled c.requires) in
    length-take-le c.len-n.result c.args.values.now (rows _ c.args.kinds.now _ c.if-values-n.false).0 ∙ sym (length-take-le c.len-n.result c.all_read.new.cells r)

pub returns : goal.returns
returns c =
    let d = c.args.sent.now in
    let n : ℕ = c.len-n.result in
    let roomy : short (turns d) c.args.values.now c.args.kinds.now ≡ false = subst (λ (n : ℕ). (ltb (length c.args.values.now) n || ltb (length c.args.kinds.now) n) ≡ false) (count d _ c.len-n.ensures.value) c.if-values-n.false in
    let all = read d _ _ c.all_read.ensures.value c.in_ok-all_read.was in
    let none = all.0 in
    let filled = sym (all_filled (turns d) c.args.values.now c.args.kinds.now roomy none) in
    let readings : length (readings_in (turns d)) ≡ n = many d none ∙ sym c.len-n.ensures.value in
    let fits : n ≤ 125 = few d n c.len-n.ensures.value c.len-n.ensures.ruled c.requires in
    let long = rows _ c.args.kinds.now n c.if-values-n.false in
    let cells = laid (replicate 125 0) _ (map cell_of (readings_in (turns d))) n (c.all_read.ensures.cells_after all.1) (length-map (readings_in (turns d)) cell_of ∙ readings) fits in
    let numbers = laid (replicate 125 0) _ (map kind_of (readings_in (turns d))) n (c.all_read.ensures.numbers_after all.1) (length-map (readings_in (turns d)) kind_of ∙ readings) fits in
    record {
      answers = ap Ok (count d n c.len-n.ensures.value) ∙ ap (λ (o : Rows). o.answer) filled;
      cells = copied c.args.values.now _ (map cell_of (readings_in (turns d))) n (c.copy_from_slice.ensures.after ∙ cells) (length-map (readings_in (turns d)) cell_of ∙ readings) long.0 ∙ ap (λ (o : Rows). o.values) filled;
      numbers = copied c.args.kinds.now _ (map kind_of (readings_in (turns d))) n (c.copy_from_slice-2.ensures.after ∙ numbers) (length-map (readings_in (turns d)) kind_of ∙ readings) long.1 ∙ ap (λ (o : Rows). o.kinds) filled;
    }
