-- The parts of the statement: the text fits since 32 characters a byte are enough for each line; bench's meter is an accepted one.
use mathlib.Core.Path.{◌≡◌, refl, ap}
use mathlib.Core.Bool.{Bool, true, false, cond}
use mathlib.Core.List.{List}
use Prim.Native.Nat.{ℕ, ◌*◌, ◌≤◌}
use native.Mathlib.Omega.{arith}
use lib.ListN.{length, take, replicate}
use Rattle.std.proofs.Common.{Option, Some, None, Err}
use lib.Seq.{sets}
use borrow.Author.Tests.{le-leb}
use Rattle.refusal.specs.declared.Refusal.{Refusal}
use Rattle.words.specs.declared.Order.TheVariants.{UpperFirst}
use Rattle.lines.specs.Lines.{line_ok, bytes_of}
use Rattle.modbus.proofs.Stores.{sets_taken}
use Rattle.meter.specs.declared.Meter.{Meter}
use Rattle.meter.specs.Meters.{meter_ok}
use Rattle.meter.proofs.Accepts.{made_within, new_answers, new_blank}
use Rattle.transcript.specs.Transcript.{outcome_of, meter_after, bench_given, bench_meter, bench_text, room_for, Transcribed, TextWritten}
use Rattle.transcript.proofs.Outcomes.{stays_within, never_refuses}
use Rattle.transcript.proofs.Texts.{input_most}

fits : (input : List ℕ) → length (bench_text input) ≤ 32 * length input
unfolding bench_text
fits input = input_most bench_meter input

whole : (input before : List ℕ) (answer : ℕ) (after : List ℕ) → 32 * length input ≤ length before → Transcribed input before (Some answer) after → take answer after ≡ bench_text input
whole input before answer after h t =
    let room : room_for input (length before) ≡ true = le-leb _ _ h in
    let told : Some answer ≡ Some (length (bench_text input)) = rw room at t.told in
    let long : answer ≡ length (bench_text input) = cc in
    let bytes : after ≡ sets before 0 (bench_text input) = rw room at t.bytes in
    rw (long, bytes) (sets_taken before (bench_text input) (omega (arith, fits input)))

answers : (input before after : List ℕ) → 32 * length input ≤ length before → Transcribed input before None after → ⊥
answers input before after h t =
    let room : room_for input (length before) ≡ true = le-leb _ _ h in
    let told : ◌≡◌ {A = Option ℕ} None (Some (length (bench_text input))) = rw room at t.told in
    let z : ◌≡◌ {A = ℕ} 0 1 = cc in
    omega (arith, z)

new : meter_ok bench_meter ≡ true
unfolding bench_meter
new = made_within bench_given ((new_answers bench_given).accepted.1 (refl, λ e. omega arith, λ e. omega arith))

alone : bench_meter.given.second ≡ 0
unfolding bench_meter
alone = ap (λ (m : Meter). m.given.second) (new_blank bench_given)

upper : bench_meter.given.order ≡ UpperFirst
unfolding bench_meter
upper = ap (λ (m : Meter). m.given.order) (new_blank bench_given)

within : (m : Meter) (line : List ℕ) → meter_ok m ≡ true → meter_ok (meter_after m line) ≡ true
unfolding meter_after outcome_of
within m line h = by (line_ok line)
  where
    by : (b : Bool) → meter_ok (cond b (outcome_of m line).handled.meter m) ≡ true
    by true = stays_within m (bytes_of line) (replicate 256 0) h
    by false = h

answered : (m : Meter) (line : List ℕ) (reason : Refusal) → meter_ok m ≡ true → (outcome_of m line).handled.reply ≡ Err reason → ⊥
unfolding outcome_of
answered m line reason h = never_refuses m (bytes_of line) (replicate 256 0) h (omega arith) reason

pub text_written : TextWritten
text_written = record { fits = fits; whole = whole; answers = answers; answered = answered; within = within; new = new; alone = alone; upper = upper }
