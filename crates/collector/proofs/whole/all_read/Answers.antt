-- In each turn one item more is read; the first that is refused ends it.
use lib.ListN.{length, get_or}
use Rattle.std.proofs.Common.{◌≡◌, refl, sym, ap, ap₂, subst, ◌∙◌, Bool, true, false, arith, add-one, List, [], ◌∷◌, ◌++◌, map, ℕ, ◌<◌}
use lib.Seq.{sets}
use Rattle.refusal.specs.declared.Refusal.TheVariants.{ValueImpossible}
use Rattle.words.specs.Words.{value_at}
use Rattle.directory.specs.declared.Item.{Item}
use Rattle.directory.specs.Item.{none}
use Rattle.directory.specs.Run.{words_of}
use Rattle.reading.specs.declared.Quantity.{Quantity}
use Rattle.reading.specs.declared.Answer.{Answer}
use Rattle.reading.specs.declared.Answer.TheVariants.{Reading, Refused}
use Rattle.reading.specs.Told.{kind_of}
use Rattle.reading.specs.Readings.{thirteen, reading_of}
use Rattle.reading.specs.Cells.{cell_of}
use Rattle.collector.specs.declared.data.Data.{Data}
use Rattle.collector.specs.Collector.{place_of, item_of}
use Rattle.collector.specs.Whole.{in_turn, is_thirteen}
use Rattle.collector.proofs.When.{impossible, possible}
use Rattle.collector.proofs.Places.{words_upto, words_within, known, item_reads}
use Rattle.collector.proofs.Turns.{Read, read_length, read_none, read_all, read_next, any_at, laid_next}
use Rattle.collector.proofs.Rows.{refusing, passing, not_both}
use Rattle.collector.proofs.whole.all_read.Goals as goal

-- the calls one by one
abbrev ask : Data → ℕ → Answer
ask d = item_of d.order d.tenths d.asked d.reply.now

-- what an item's words read as is what its call gives
called : (d : Data) (i at : ℕ) (it : Item) (a : Answer) → i < length d.asked → at ≡ place_of d.asked i → it ≡ get_or d.asked i none → a ≡ reading_of d.tenths it (value_at d.order it.words d.reply.now at) → a ≡ ask d i
called d i at it a below here is e =
    e
    ∙ ap₂ (λ (it : Item) (at : ℕ). reading_of d.tenths it (value_at d.order it.words d.reply.now at)) is here
    ∙ sym (item_reads d.order d.tenths d.asked d.reply.now i below)

pub loop-i-init : goal.loop-i-init
unfolding in_turn words_of
loop-i-init c =
    (c.len-i-end.ensures.value, refl, record { qs = []; read = refl; values = refl; kinds = refl })

pub reading-requires-clause-words_there : goal.reading-requires-clause-words_there
reading-requires-clause-words_there c =
    let d = c.args.sent.now in
    let l = c.loop-i in
    let below : l.i < length d.asked = omega (arith, l.invariant.0) in
    let k = known d.asked d.reply.now c.len-i-end.ensures.ruled d.fits l.i l.at c.at-it.result below l.invariant.1 c.at-it.ensures.value in
    (k.room, (k.narrow.some, k.narrow.few))

-- what is not a reading is 13
unread : (t : ℕ) (it : Item) (v : ℕ) (a : Answer) → a ≡ reading_of t it v → ((q : Quantity) → a ≡ Reading q → ⊥) → a ≡ Refused ValueImpossible
unread t it v a e none = by (thirteen it v) refl
  where
    by : (b : Bool) → thirteen it v ≡ b → a ≡ Refused ValueImpossible
    by true h = e ∙ impossible t it v h
    by false h = absurd (none _ (e ∙ possible t it v h))

pub returns-in_default : goal.returns-in_default
returns-in_default c =
    let d = c.args.sent.now in
    let l = c.loop-i in
    let below : l.i < length d.asked = omega (arith, l.invariant.0) in
    let read = called d l.i l.at c.at-it.result c.reading.result below l.invariant.1 c.at-it.ensures.value c.reading.ensures in
    let refused = unread d.tenths c.at-it.result _ c.reading.result c.reading.ensures c.in_default.not-Reading in
    let any = any_at (length d.asked) (ask d) l.i below (ap is_thirteen (sym read ∙ refused)) in
    record { value = refusing ValueImpossible tt any; cells_after = λ h. absurd (not_both h); numbers_after = λ h. absurd (not_both h) }

pub overflow_add-at : goal.overflow_add-at
overflow_add-at c =
    let d = c.args.sent.now in
    let l = c.loop-i in
    let below : l.i < length d.asked = omega (arith, l.invariant.0) in
    let here : c.from.result ≡ (get_or d.asked l.i none).words = c.from.ensures ∙ ap (λ (it : Item). it.words) c.at-it.ensures.value in
    omega (arith, here, l.invariant.1, words_within d.asked l.i below, d.fits)

pub loop-i-preserved : goal.loop-i-preserved
loop-i-preserved c =
    let d = c.args.sent.now in
    let l = c.loop-i in
    let p = l.invariant.2 in
    let q = c.in-Reading.q in
    let below : l.i < length d.asked = omega (arith, l.invariant.0) in
    let here : c.from.result ≡ (get_or d.asked l.i none).words = c.from.ensures ∙ ap (λ (it : Item). it.words) c.at-it.ensures.value in
    let read = called d l.i l.at c.at-it.result c.reading.result below l.invariant.1 c.at-it.ensures.value c.reading.ensures in
    let long = read_length l.i (ask d) p.qs p.read in (
      l.invariant.0,
      rw (add-one l.i) (omega (arith, l.invariant.1, words_upto d.asked l.i below, here)),
      rw (add-one l.i)
          (record {
            qs = p.qs ++ (q ∷ []);
            read = read_next l.i (ask d) p.qs p.read q (sym read ∙ c.in-Reading.is);
            values = rw (p.values, c.cell.ensures) (laid_next cell_of c.args.cells.now p.qs q l.i long);
            kinds = rw (p.kinds, c.kind.ensures) (laid_next kind_of c.args.numbers.now p.qs q l.i long);
          }),
    )

pub returns : goal.returns
returns c =
    let d = c.args.sent.now in
    let l = c.loop-i in
    let p = l.invariant.2 in
    let all : l.i ≡ length d.asked = omega (arith, l.invariant.0) in
    let done : Read (length d.asked) (ask d) p.qs = subst (λ (j : ℕ). Read j (ask d) p.qs) all p.read in
    let same = sym (read_all (length d.asked) (ask d) p.qs done) in
    record {
      value = passing ValueImpossible tt (read_none (length d.asked) (ask d) p.qs done);
      cells_after = λ h. p.values ∙ ap (λ (qs : List Quantity). sets c.args.cells.now 0 (map cell_of qs)) same;
      numbers_after = λ h. p.kinds ∙ ap (λ (qs : List Quantity). sets c.args.numbers.now 0 (map kind_of qs)) same;
    }
