-- A bad line is answered so, and leaves the meter as it was. The frame of a good one is cut at 257 bytes, where it was too long
-- already, and so the meter does with it what it does with the whole frame.
use lib.ListN.{length, take, replicate, length-take}
use Rattle.std.proofs.Common.{◌≡◌, refl, sym, ap, ◌∙◌, Bool, true, false, cond, List, ℕ, min, Some, None, arith}
use lib.Seq.{sets}
use Rattle.lines.specs.Lines.{bytes_of, line_ok, line_of, frame_over}
use Rattle.modbus.proofs.Stores.{sets_taken}
use Rattle.meter.specs.declared.Meter.{Meter}
use Rattle.board.specs.declared.Handled.{Handled}
use Rattle.board.specs.Board.{Outcome, Allowed, board_of}
use Rattle.board.proofs.Lengths.{reply_long}
use Rattle.transcript.specs.Transcript.{bad_text, reply_text, outcome_of, line_text, meter_after}
use Rattle.transcript.proofs.Outcomes.{cut}
use Rattle.transcript.proofs.answer.Goals as goal

-- ---- a bad line
module _ (m : Meter) (line : List ℕ) (is : line_of line 257 ≡ None) where
  not_ok : line_ok line ≡ false
  not_ok = by (line_ok line) is
    where
      by : (b : Bool) → cond b (Some (min (length (bytes_of line)) 257)) None ≡ None → b ≡ false
      by true e = let z : ◌≡◌ {A = ℕ} 0 1 = cc in absurd (omega (arith, z))
      by false e = refl

  bad_text_lem : line_text m line ≡ bad_text
  unfolding line_text
  bad_text_lem = rw not_ok refl

  bad_meter : meter_after m line ≡ m
  unfolding meter_after
  bad_meter = rw not_ok refl

-- ---- a good one
module _ (m : Meter) (line frame : List ℕ) (n : ℕ) (is : line_of line 257 ≡ Some n) (holds : frame ≡ frame_over line (replicate 257 0)) where
  ok : (line_ok line ≡ true) × (n ≡ min (length (bytes_of line)) 257)
  ok = by (line_ok line) is
    where
      by : (b : Bool) → cond b (Some (min (length (bytes_of line)) 257)) None ≡ Some n → (b ≡ true) × (n ≡ min (length (bytes_of line)) 257)
      by true e = (refl, cc)
      by false e = let z : ◌≡◌ {A = ℕ} 0 1 = cc in absurd (omega (arith, z))

  read : take n frame ≡ take 257 (bytes_of line)
  read =
      let put : frame ≡ sets (replicate 257 0) 0 (take 257 (bytes_of line)) = rw ok.0 at holds in
      let long : n ≡ length (take 257 (bytes_of line)) = omega (arith, ok.1, length-take 257 (bytes_of line)) in
      rw (put, long) (sets_taken (replicate 257 0) (take 257 (bytes_of line)) (omega (arith, length-take 257 (bytes_of line))))

  outcome : board_of m (take n frame) (replicate 256 0) ≡ outcome_of m line
  unfolding outcome_of
  outcome = ap (λ (f : List ℕ). board_of m f (replicate 256 0)) read ∙ cut m (bytes_of line) (replicate 256 0)

  module _ (x : Handled) (after : List ℕ) (a : Allowed (board_of m (take n frame) (replicate 256 0)) x after) where
    good_text : reply_text x.reply after ≡ line_text m line
    unfolding line_text
    good_text =
        let h : x ≡ (outcome_of m line).handled = a.handled ∙ ap (λ (o : Outcome). o.handled) outcome in
        let b : after ≡ (outcome_of m line).buffer = a.bytes ∙ ap (λ (o : Outcome). o.buffer) outcome in
        rw (ok.0, h, b) refl

    good_meter : x.meter ≡ meter_after m line
    unfolding meter_after
    good_meter = rw ok.0 (ap (λ (h : Handled). h.meter) (a.handled ∙ ap (λ (o : Outcome). o.handled) outcome))

pub put-requires : goal.put-requires
put-requires c =
    let unread : line_of c.args.line.now 257 ≡ None = sym c.frame.ensures.told ∙ c.in_default.is in
    omega (arith, c.requires, ap length (bad_text_lem c.args.meter.now c.args.line.now unread))

pub returns-in_default : goal.returns-in_default
returns-in_default c =
    let unread : line_of c.args.line.now 257 ≡ None = sym c.frame.ensures.told ∙ c.in_default.is in
    let text = bad_text_lem c.args.meter.now c.args.line.now unread in
    record { meter_after = sym (bad_meter c.args.meter.now c.args.line.now unread); value = rw text c.put.ensures.value; text_after = rw text c.put.ensures.text_after }

pub tell-requires : goal.tell-requires
tell-requires c =
    let held : line_of c.args.line.now 257 ≡ Some c.in-Some.n = sym c.frame.ensures.told ∙ c.in-Some.is in
    let told_text = good_text c.args.meter.now c.args.line.now c.frame.new.buffer c.in-Some.n held c.frame.ensures.bytes c.handle-handled.result c.handle-handled.new.buffer c.handle-handled.ensures in
    record {
      reply_within = λ n e. omega (arith, reply_long _ _ _ c.handle-handled.ensures.handled e);
      room = omega (arith, c.requires, ap length told_text);
    }

pub returns : goal.returns
returns c =
    let held : line_of c.args.line.now 257 ≡ Some c.in-Some.n = sym c.frame.ensures.told ∙ c.in-Some.is in
    let told_text = good_text c.args.meter.now c.args.line.now c.frame.new.buffer c.in-Some.n held c.frame.ensures.bytes c.handle-handled.result c.handle-handled.new.buffer c.handle-handled.ensures in
    record {
      meter_after = good_meter c.args.meter.now c.args.line.now c.frame.new.buffer c.in-Some.n held c.frame.ensures.bytes c.handle-handled.result c.handle-handled.new.buffer c.handle-handled.ensures;
      value = c.tell.ensures.value ∙ ap length told_text;
      text_after = c.tell.ensures.text_after ∙ ap (sets c.args.text.now 0) told_text;
    }
