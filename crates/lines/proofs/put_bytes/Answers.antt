-- What is left of the line is still good, and its bytes, stored from the next place on, make the buffer that is due.
use lib.ListN.{length, get_or, set, take, drop, length-take, length-drop}
use Rattle.std.proofs.Common.{◌≡◌, sym, ◌∙◌, List, [], ℕ, suc, ◌+◌, ◌-◌, ◌*◌, ◌/◌, ◌≤◌, ◌<◌, min, add-one, arith}
use lib.Seq.{sets}
use Rattle.digits.specs.Hex.{byte_of}
use Rattle.lines.specs.Lines.{bytes_of}
use Rattle.lines.proofs.Laws.{nothing, bytes_length, turn_ok, turn_bytes}
use Rattle.lines.proofs.put_bytes.Goals as goal

turn : (line buffer : List ℕ) (i room r : ℕ) → 3 * i + 2 ≤ length line → i < room → r ≡ byte_of (get_or line (3 * i) 0) (get_or line (3 * i + 1) 0) → sets (set buffer i r) (i + 1) (take (room - (i + 1)) (bytes_of (drop (3 * (i + 1)) line))) ≡ sets buffer i (take (room - i) (bytes_of (drop (3 * i) line)))
turn line buffer i room r h inside e =
    let one : room - i ≡ suc (room - (i + 1)) = omega arith in
    let next : i + 1 ≡ suc i = add-one i in
    rw (one, turn_bytes line i h, ← e, next)

done : (line buffer : List ℕ) (i room : ℕ) → min ((length line + 1) / 3) room ≤ i → sets buffer i (take (room - i) (bytes_of (drop (3 * i) line))) ≡ buffer
done line buffer i room h =
    let left = take (room - i) (bytes_of (drop (3 * i) line)) in
    let none : left ≡ [] = nothing left (simp (length-take, bytes_length, length-drop) (omega arith)) in
    rw none

pub byte_of-requires : goal.byte_of-requires
byte_of-requires c = (turn_ok c.args.line.now c.loop-i.i (omega arith) c.loop-i.invariant.0).0

pub loop-i-preserved : goal.loop-i-preserved
loop-i-preserved c =
    let line = c.args.line.now in
    ((turn_ok line c.loop-i.i (omega arith) c.loop-i.invariant.0).1, turn line c.loop-i.buffer c.loop-i.i (length c.args.buffer.now) c.byte_of.result (omega arith) (omega arith) c.byte_of.ensures ∙ c.loop-i.invariant.1)

pub returns : goal.returns
returns c =
    record { value = omega (arith, bytes_length c.args.line.now); buffer_after = sym (done c.args.line.now c.loop-i.buffer c.loop-i.i (length c.args.buffer.now) (omega arith)) ∙ c.loop-i.invariant.1 }
