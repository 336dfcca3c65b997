-- `text` tests for room with the product turned into a quotient that cannot wrap. The text of n bytes is 3 n - 1 characters; of none it is empty.
use lib.ListN.{length, get_or, get_or-append, set, drop, drop_of_length-le}
use Rattle.std.proofs.Common.{◌≡◌, refl, ◌∙◌, List, [], ◌∷◌, ◌++◌, length-append, ℕ, suc, ◌+◌, ◌-◌, ◌*◌, ◌≤◌, ◌<◌, Some, arith, rules}
use lib.Seq.{sets, drop-cons, get_or-append_seam}
use borrow.Author.Tests.{le-leb}
use Rattle.digits.specs.Hex.{pair_of}
use Rattle.lines.specs.Lines.{text_of, TextPut}
use Rattle.lines.proofs.Laws.{nothing, two}
use Rattle.lines.proofs.Texts.{text_length_lem}
use Rattle.lines.proofs.text.Goals as goal

empty : (bytes buffer : List ℕ) → length bytes ≡ 0 → TextPut bytes buffer (Some 0) buffer
unfolding text_of
empty bytes buffer h =
    let e : bytes ≡ [] = nothing bytes h in
    let t = le-leb 0 (length buffer) (omega arith) in
    record { told = rw e (simp t); bytes = rw e (simp t) }

room : (bytes buffer : List ℕ) → 3 * length bytes ≤ length buffer → TextPut bytes buffer (Some (3 * length bytes - 1)) (sets buffer 0 (text_of bytes))
room bytes buffer h =
    let t = le-leb (3 * length bytes) (length buffer) h in
    record { told = simp (t, text_length_lem); bytes = simp t }

-- a pair and its space, and the last pair
module _ (bytes others buffer after : List ℕ) (last : ℕ) (parts : bytes ≡ others ++ last ∷ []) where
  long : length bytes ≡ length others + 1
  long = rw (parts, length-append) refl

  turn : (i : ℕ) → i < length others → after ≡ sets buffer (3 * i) (pair_of (get_or others i 0)) → sets (set after (3 * i + 2) 0x20) (3 * (i + 1)) (text_of (drop (i + 1) bytes)) ≡ sets buffer (3 * i) (text_of (drop i bytes))
  unfolding text_of
  turn i h put =
      let space : 3 * i + 2 ≡ suc (suc (3 * i)) = omega arith in
      let next : 3 * (i + 1) ≡ suc (suc (suc (3 * i))) = omega arith in
      let second : suc (i + 1) ≡ i + 2 = omega arith in
      let same : get_or bytes i 0 ≡ get_or others i 0 = rw parts (get_or-append others (last ∷ []) 0 i h) in
      rw (put, space, next, two bytes i (omega (arith, long)), drop-cons bytes (i + 1) 0 (omega (arith, long)), second, same)

  done : (i : ℕ) → i ≡ length others → after ≡ sets buffer (3 * i) (pair_of last) → after ≡ sets buffer (3 * i) (text_of (drop i bytes))
  unfolding text_of
  done i h put =
      let same : get_or bytes i 0 ≡ last = rw (parts, h) (get_or-append_seam others last [] 0) in
      rw (put, drop-cons bytes i 0 (omega (arith, long)), drop_of_length-le bytes {i = suc i} (omega (arith, long)), same)

pub returns-in_default : goal.returns-in_default
returns-in_default c = empty c.args.bytes.now c.args.buffer.now (search rules)

pub loop-i-preserved : goal.loop-i-preserved
loop-i-preserved c =
    turn c.args.bytes.now c.in-Some.others.now c.loop-i.buffer c.put_digits.new.buffer c.in-Some.last.now c.in-Some.ensures.cases.0 c.loop-i.i c.loop-i-test.true c.put_digits.ensures ∙ c.loop-i.invariant

pub returns : goal.returns
returns c =
    let i : c.loop-i.i ≡ length c.in-Some.others.now = omega arith in
    let r = room c.args.bytes.now c.args.buffer.now (omega arith) in
    let put : c.put_digits-2.new.buffer ≡ sets c.loop-i.buffer (3 * c.loop-i.i) (pair_of c.in-Some.last.now) = rw i c.put_digits-2.ensures in
    let all = done c.args.bytes.now c.in-Some.others.now c.loop-i.buffer c.put_digits-2.new.buffer c.in-Some.last.now c.in-Some.ensures.cases.0 c.loop-i.i i put in
    record { told = r.told; bytes = all ∙ c.loop-i.invariant ∙ r.bytes }
