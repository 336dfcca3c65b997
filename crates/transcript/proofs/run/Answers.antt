-- The text of the lines that are left, stored where the text ends so far, makes the whole one; it has room, since the whole text has.
use lib.ListN.{length, take, drop, set, length-set, length-take, length-drop, drop_of_length-le}
use Rattle.std.proofs.Common.{◌≡◌, refl, ap, ◌∙◌, List, [], ◌∷◌, ◌++◌, append_assoc, append-nil, ℕ, suc, ◌+◌, ◌-◌, ◌*◌, ◌≤◌, ◌<◌, arith}
use lib.Seq.{sets, sets-eq, length-sets, take_all, drop-drop}
use borrow.Rule.Slice.PartMut.{put_mid}
use Rattle.modbus.proofs.Stores.{sets_front}
use Rattle.lines.specs.Lines.{line_length}
use Rattle.transcript.specs.Transcript.{lines_of, transcript_of, line_text, meter_after, bench_given, bench_meter, bench_text}
use Rattle.meter.specs.declared.Meter.{Meter}
use Rattle.meter.specs.declared.Answered.{Answered}
use Rattle.meter.specs.Meters.{new_of}
use Rattle.words.proofs.Laws.{sets_append}
use Rattle.transcript.proofs.Texts.{line_ends, next_text, next_length}
use Rattle.transcript.proofs.Written.{text_written}
use Rattle.transcript.proofs.run.Goals as goal

begun : (made : Answered) (input : List ℕ) → made ≡ new_of bench_given → transcript_of made.meter (lines_of input) ≡ bench_text input
unfolding bench_text bench_meter
begun made input e = ap (λ (x : Answered). transcript_of x.meter (lines_of input)) e

ended : (input : List ℕ) (at : ℕ) (m : Meter) → length input ≤ at → transcript_of m (lines_of (drop at input)) ≡ []
unfolding lines_of transcript_of
ended input at m h = rw (drop_of_length-le input h)

-- a line's answer and the line feed behind it, and then the text that is left
turn : (text after line_text left : List ℕ) (from end : ℕ) → after ≡ sets text from line_text → end ≡ from + length line_text → sets (set after end 0x0A) (end + 1) left ≡ sets text from (line_text ++ (0x0A ∷ left))
turn text after line_text left from end s e =
    let next : end + 1 ≡ suc end = omega arith in
    rw (next, sets_append text from line_text (0x0A ∷ left), ← e, ← s)

-- what is put at the start of the rest is put at its place in the whole
placed : (text bytes : List ℕ) (at : ℕ) → at + length bytes ≤ length text → put_mid at (length text - at) text (sets (take (length text - at) (drop at text)) 0 bytes) ≡ sets text at bytes
placed text bytes at h =
    let rest : length (drop at text) ≡ length text - at = length-drop at text in
    let all : take (length text - at) (drop at text) ≡ drop at text = take_all (length text - at) (drop at text) (omega arith) in
    let none : drop (length text - at) (drop at text) ≡ [] = drop_of_length-le (drop at text) {i = length text - at} (omega arith) in
    rw (all, none, sets_front (drop at text) bytes (omega arith), drop-drop (length bytes) at text, sets-eq bytes text at h) (simp (append-nil, append_assoc))

-- a line, from `at` to `stop`
module _ (input text : List ℕ) (m : Meter) (at end stop : ℕ) (inside : at < length input) (found : stop ≡ at + line_length (drop at input)) where
  abbrev line : List ℕ
  line = take (stop - at) (drop at input)

  abbrev behind : List (List ℕ)
  behind = lines_of (drop (stop + 1) input)

  stops : stop ≤ length input
  stops = line_ends input at stop inside found

  left_length : length (transcript_of m (lines_of (drop at input))) ≡ length (line_text m line) + 1 + length (transcript_of (meter_after m line) behind)
  left_length = next_length input at stop inside found m

  -- with the whole of the room, and the text of the lines so far
  module _ (whole : 32 * length input ≤ length text) (so_far : end + length (transcript_of m (lines_of (drop at input))) ≡ length (bench_text input)) where
    room : end + length (line_text m line) < length text
    room = omega (arith, left_length, whole, so_far, text_written.fits input)

    rest_room : length (line_text m line) < length (take (length text - end) (drop end text))
    rest_room = omega (arith, room, length-take (length text - end) (drop end text), length-drop end text)

    -- and what the meter's answer to it leaves
    module _ (next : Meter) (told : ℕ) (after : List ℕ) (e : next ≡ meter_after m line) (f : told ≡ length (line_text m line)) (g : after ≡ sets (take (length text - end) (drop end text)) 0 (line_text m line)) where
      same_left : transcript_of next behind ≡ transcript_of (meter_after m line) behind
      same_left = ap (λ (x : Meter). transcript_of x behind) e

      put : put_mid end (length text - end) text after ≡ sets text end (line_text m line)
      put = ap (put_mid end (length text - end) text) g ∙ placed text (line_text m line) end (omega (arith, room))

      same_room : length (put_mid end (length text - end) text after) ≡ length text
      same_room = ap length put ∙ length-sets text end (line_text m line)

      feed_room : end + told < length (put_mid end (length text - end) text after)
      feed_room = omega (arith, room, f, same_room)

      left_told : end + told + 1 + length (transcript_of next behind) ≡ length (bench_text input)
      left_told = omega (arith, f, ap length same_left, left_length, so_far)

      left_stored : sets (set (put_mid end (length text - end) text after) (end + told) 0x0A) (end + told + 1) (transcript_of next behind) ≡ sets text end (transcript_of m (lines_of (drop at input)))
      left_stored =
          let ends : end + told ≡ end + length (line_text m line) = omega (arith, f) in
          rw (same_left, next_text input at stop inside found m) (turn text _ (line_text m line) _ end (end + told) put ends)

pub loop-at-init : goal.loop-at-init
loop-at-init c =
    let b = begun c.of-new.result c.args.input.now c.of-new.ensures in
    (omega arith, refl, omega (arith, ap length b), rw b refl)

pub slice_bounds-answer-end : goal.slice_bounds-answer-end
slice_bounds-answer-end c = omega (arith, stops c.args.input.now c.loop-at.text c.loop-at.meter c.loop-at.at c.loop-at.end c.line_end-stop.result c.loop-at-test.true c.line_end-stop.ensures)

pub slice_bounds-answer-count-in-loop-at : goal.slice_bounds-answer-count-in-loop-at
slice_bounds-answer-count-in-loop-at c = omega (arith, room c.args.input.now c.loop-at.text c.loop-at.meter c.loop-at.at c.loop-at.end c.line_end-stop.result c.loop-at-test.true c.line_end-stop.ensures (omega (arith, c.requires, c.loop-at.invariant.1)) c.loop-at.invariant.2)

pub slice_bounds-answer-start-in-loop-at : goal.slice_bounds-answer-start-in-loop-at
slice_bounds-answer-start-in-loop-at c = omega (arith, room c.args.input.now c.loop-at.text c.loop-at.meter c.loop-at.at c.loop-at.end c.line_end-stop.result c.loop-at-test.true c.line_end-stop.ensures (omega (arith, c.requires, c.loop-at.invariant.1)) c.loop-at.invariant.2)

pub answer-end-requires : goal.answer-end-requires
answer-end-requires c = rest_room c.args.input.now c.loop-at.text c.loop-at.meter c.loop-at.at c.loop-at.end c.line_end-stop.result c.loop-at-test.true c.line_end-stop.ensures (omega (arith, c.requires, c.loop-at.invariant.1)) c.loop-at.invariant.2

pub overflow_add-end : goal.overflow_add-end
overflow_add-end c = omega (arith, room c.args.input.now c.loop-at.text c.loop-at.meter c.loop-at.at c.loop-at.end c.line_end-stop.result c.loop-at-test.true c.line_end-stop.ensures (omega (arith, c.requires, c.loop-at.invariant.1)) c.loop-at.invariant.2, c.answer-end.ensures.value, c.loop-at.invariant.1)

pub bounds-text-end : goal.bounds-text-end
bounds-text-end c = feed_room c.args.input.now c.loop-at.text c.loop-at.meter c.loop-at.at c.loop-at.end c.line_end-stop.result c.loop-at-test.true c.line_end-stop.ensures (omega (arith, c.requires, c.loop-at.invariant.1)) c.loop-at.invariant.2 c.answer-end.new.meter c.answer-end.result c.answer-end.new.text c.answer-end.ensures.meter_after c.answer-end.ensures.value c.answer-end.ensures.text_after

pub overflow_add-end-in-loop-at : goal.overflow_add-end-in-loop-at
overflow_add-end-in-loop-at c = omega (arith, room c.args.input.now c.loop-at.text c.loop-at.meter c.loop-at.at c.loop-at.end c.line_end-stop.result c.loop-at-test.true c.line_end-stop.ensures (omega (arith, c.requires, c.loop-at.invariant.1)) c.loop-at.invariant.2, c.answer-end.ensures.value, c.loop-at.invariant.1)

pub loop-at-preserved : goal.loop-at-preserved
loop-at-preserved c = (
  omega (arith, stops c.args.input.now c.loop-at.text c.loop-at.meter c.loop-at.at c.loop-at.end c.line_end-stop.result c.loop-at-test.true c.line_end-stop.ensures),
  simp length-set (same_room c.args.input.now c.loop-at.text c.loop-at.meter c.loop-at.at c.loop-at.end c.line_end-stop.result c.loop-at-test.true c.line_end-stop.ensures (omega (arith, c.requires, c.loop-at.invariant.1)) c.loop-at.invariant.2 c.answer-end.new.meter c.answer-end.result c.answer-end.new.text c.answer-end.ensures.meter_after c.answer-end.ensures.value c.answer-end.ensures.text_after ∙ c.loop-at.invariant.1),
  left_told c.args.input.now c.loop-at.text c.loop-at.meter c.loop-at.at c.loop-at.end c.line_end-stop.result c.loop-at-test.true c.line_end-stop.ensures (omega (arith, c.requires, c.loop-at.invariant.1)) c.loop-at.invariant.2 c.answer-end.new.meter c.answer-end.result c.answer-end.new.text c.answer-end.ensures.meter_after c.answer-end.ensures.value c.answer-end.ensures.text_after,
  left_stored c.args.input.now c.loop-at.text c.loop-at.meter c.loop-at.at c.loop-at.end c.line_end-stop.result c.loop-at-test.true c.line_end-stop.ensures (omega (arith, c.requires, c.loop-at.invariant.1)) c.loop-at.invariant.2 c.answer-end.new.meter c.answer-end.result c.answer-end.new.text c.answer-end.ensures.meter_after c.answer-end.ensures.value c.answer-end.ensures.text_after ∙ c.loop-at.invariant.3,
)

pub returns : goal.returns
returns c =
    let none = ended c.args.input.now c.loop-at.at c.loop-at.meter c.loop-at-test.false in
    record { value = omega (arith, c.loop-at.invariant.2, ap length none); text_after = rw none at c.loop-at.invariant.3 }
