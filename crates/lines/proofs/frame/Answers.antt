-- A good line is put as `put_bytes` says, and a bad one not at all.
use Rattle.std.proofs.Common.{◌≡◌, true}
use Rattle.lines.specs.Lines.{line_ok}
use Rattle.lines.proofs.frame.Goals as goal

pub returns-then-line_ok : goal.returns-then-line_ok
returns-then-line_ok c =
    let ok : line_ok c.args.line.now ≡ true = cc in
    record { told = simp (ok, c.put_bytes.ensures.value); bytes = simp (ok, c.put_bytes.ensures.buffer_after) }
