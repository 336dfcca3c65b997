-- There is room for 32 characters a byte, and so the whole text is there.
use Rattle.std.proofs.Common.{◌≡◌, ℕ, ◌*◌, ◌≤◌, List, Option, Some, true, length, take, arith}
use borrow.Author.Tests.{le-leb}
use Rattle.transcript.specs.Transcript.{bench_text, room_for, Transcribed}
use Rattle.transcript.proofs.Written.{text_written}
use Rattle.bench.proofs.answer.Goals as goal

told : (input before : List ℕ) (end : ℕ) (after : List ℕ) → length input ≤ 65536 → 2097152 ≡ length before → Transcribed input before (Some end) after → (end ≤ 2097152) × (take end after ≡ bench_text input)
told input before end after short long t =
    let room : room_for input (length before) ≡ true = le-leb (32 * length input) (length before) (omega arith) in
    let some : ◌≡◌ {A = Option ℕ} (Some end) (Some (length (bench_text input))) = rw room at t.told in
    let at : end ≡ length (bench_text input) = cc in
    (omega (arith, text_written.fits input), text_written.whole input before end after (omega arith) t)

pub returns : goal.returns
returns c = told c.args.input.now c.args.text.now c.unwrap.result c.of.new.text c.requires.0 c.requires.1 (rw c.unwrap.ensures at c.of.ensures)
