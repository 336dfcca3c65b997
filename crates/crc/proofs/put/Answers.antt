-- `put` finds room behind the first n bytes as it is written, and what it stores there are the CRC's two bytes on the line.
use Rattle.std.proofs.Common.{◌≡◌, sym, ap, ◌∙◌, true, List, ◌++◌, ℕ, ◌+◌, ◌≤◌, refl, append_assoc, arith}
use lib.ListN.{length, take, drop}
use lib.Seq.{sets-eq, drop-drop}
use borrow.Author.Tests.{le-leb}
use Rattle.std.specs.Int.{to_le_bytes, w16}
use Rattle.crc.specs.Crc.{crc_of, on_line, Put}
use Rattle.crc.proofs.Laws.{line_bytes}
use Rattle.crc.proofs.put.Goals as goal

room : (buffer bytes rest line : List ℕ) (n k : ℕ) → k ≡ 2 → n + 2 ≤ length buffer → bytes ≡ take n buffer → rest ≡ drop n buffer → line ≡ on_line (crc_of bytes) → Put buffer n true (bytes ++ (line ++ drop k rest))
room buffer bytes rest line n k two h eb er el =
    let e = le-leb (n + 2) (length buffer) h in
    record { answer = sym e; bytes = simp (e, sets-eq (on_line (crc_of (take n buffer))) buffer n h, el, eb, er, two, drop-drop, append_assoc) refl }

pub returns : goal.returns
returns c =
    let parts = c.in-Some.ensures.cases in
    let r = c.of.result in
    rw c.to_le_bytes.ensures
    (room _ c.in-Some.bytes.now c.in-Some.rest.now (to_le_bytes w16 r) c.args.n _ refl (omega (arith, parts, c.in-Some-first_chunk_mut.ensures.variant.0 refl)) parts.2 parts.3 (line_bytes r c.of.type_inv ∙ ap on_line c.of.ensures))
