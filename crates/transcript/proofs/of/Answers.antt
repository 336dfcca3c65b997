-- `of` tests for room as it is written, with the product turned into a quotient that cannot wrap.
use lib.ListN.{length}
use Rattle.std.proofs.Common.{ap, Some, None, ◌∙◌, List, ℕ, ◌*◌, ◌≤◌, ◌<◌, arith}
use lib.Seq.{sets}
use borrow.Author.Tests.{le-leb, lt-leb}
use Rattle.transcript.specs.Transcript.{bench_text, Transcribed}
use Rattle.transcript.proofs.of.Goals as goal

module _ (input text : List ℕ) where
  no_room : length text < 32 * length input → Transcribed input text None text
  no_room h =
      let t = lt-leb (32 * length input) (length text) h in
      record { told = simp t; bytes = simp t }

  room : 32 * length input ≤ length text → Transcribed input text (Some (length (bench_text input))) (sets text 0 (bench_text input))
  room h =
      let t = le-leb (32 * length input) (length text) h in
      record { told = simp t; bytes = simp t }

pub returns-then-text-input : goal.returns-then-text-input
returns-then-text-input c = no_room c.args.input.now c.args.text.now (omega arith)

pub returns : goal.returns
returns c =
    let r = room c.args.input.now c.args.text.now (omega arith) in
    record { told = ap Some c.run.ensures.value ∙ r.told; bytes = c.run.ensures.text_after ∙ r.bytes }
