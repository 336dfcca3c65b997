-- Eight bytes at once. A byte that comes in after n shifts may as well come in before them, n places up, so eight bytes are 64 shifts
-- of one number. What the code makes of eight bytes is 64 shifts, since it is so at each power of two.
use mathlib.Core.Path.{◌≡◌, refl, sym, ap, ap₂, ◌∙◌}
use mathlib.Core.Bool.{true, cond}
use mathlib.Core.List.{List, [], ◌∷◌, ◌++◌}
use Prim.Native.Nat.{ℕ, zero, suc, ◌+◌, ◌*◌, ◌/◌, ◌%◌, ◌^◌, ◌<◌}
use native.Mathlib.Omega.{arith}
use native.Mathlib.Nat.{zero-add, suc-add, mod-lt}
use lib.Bits.{bit_xor, xor_comm, xor_zero_r, xor_mod, xor_shifted, shifted_half, shifted_even}
use lib.Arith.{bin_ind}
use lib.Count.{ones, ones_step, ones_cat, ones-ones}
use lib.Pow.{pow_pos}
use lib.Dec.{eqb, lit<}
use lib.ListN.{length, get_or, take, drop, take-append-drop, drop_of_length-le}
use lib.Seq.{drop-cons, take-add}
use Rattle.std.specs.Int.{from_le_bytes, w64}
use Rattle.std.specs.List.{concat}
use Rattle.std.specs.Simd.{first_chunks}
use Rattle.std.proofs.lemmas.List.Folds.{concat-append}
use Rattle.std.proofs.Common.{append-nil}
use Rattle.crc.specs.Crc.{shift, shifts, crc_from, crc_of}
use Rattle.eight.specs.AtOnce.{Linear, run, folded, spread, narrowed, parity, mended, settled}
use Rattle.eight.specs.AtOnce.Linear.{it, shr, shl, low, xor, on}
use Rattle.eight.proofs.Linear.{xor_half, xor_odd, xor_assoc, xor_swap, run_xor, alike, by_bits}

-- a right shift and n of them, as shifts and exclusive-ors: 0xA001 is the bits 0, 13 and 15
once : Linear
once = xor (shr 1 it) (on (xor (xor it (shl 13 it)) (shl 15 it)) (low 1 it))

times : ℕ → Linear
times zero = it
times (suc n) = on (times n) once

shift_is : (c : ℕ) → shift c ≡ run once c
unfolding shift once
shift_is c = cases (c % 2) (omega arith)
  where
    cases : (d : ℕ) → d < 2 → cond (eqb d 1) (bit_xor (c / 2) 0xA001) (c / 2) ≡ bit_xor (c / 2) (bit_xor (bit_xor d (d * 2 ^ 13 % 2 ^ 64)) (d * 2 ^ 15 % 2 ^ 64))
    cases zero h = sym (xor_zero_r (c / 2))
    cases (suc zero) h = refl
    cases (suc (suc d)) h = absurd (omega arith)

shifts_is : (n c : ℕ) → shifts n c ≡ run (times n) c
unfolding shifts times
shifts_is zero c = refl
shifts_is (suc n) c = ap (shifts n) (shift_is c) ∙ shifts_is n (run once c)

shifts_xor : (n a b : ℕ) → shifts n (bit_xor a b) ≡ bit_xor (shifts n a) (shifts n b)
shifts_xor n a b = simp shifts_is (run_xor (times n) a b)

-- bits that stand n places up come down unchanged
shifts_up : (n b : ℕ) → shifts n (b * 2 ^ n) ≡ b
unfolding shift shifts
shifts_up zero b = omega arith
shifts_up (suc n) b = rw (shifted_even b n, shifted_half b n) (shifts_up n b)

shifts_shifts : (m n c : ℕ) → shifts n (shifts m c) ≡ shifts (m + n) c
unfolding shifts
shifts_shifts zero n c = rw zero-add
shifts_shifts (suc m) n c = rw suc-add (shifts_shifts m n (shift c))

-- bytes as one number, the first lowest
unfoldable number : List ℕ → ℕ
number [] = 0
number (b ∷ bs) = bit_xor (number bs * 2 ^ 8) b

-- bytes that come in one by one may come in at once
at_once : (c : ℕ) (bs : List ℕ) → crc_from c bs ≡ shifts (8 * length bs) (bit_xor c (number bs))
unfolding crc_from number shifts
at_once c [] = rw xor_zero_r refl
at_once c (b ∷ bs) =
    let n = number bs in
    let next = bit_xor c b in
    let count : 8 + 8 * length bs ≡ 8 * suc (length bs) = omega arith in
    at_once (shifts 8 next) bs
    ∙ ap (shifts (8 * length bs)) (ap (bit_xor (shifts 8 next)) (sym (shifts_up 8 n)) ∙ sym (shifts_xor 8 next (n * 2 ^ 8)))
    ∙ rw (shifts_shifts, count, xor_assoc, xor_comm b (n * 2 ^ 8)) refl

-- the number from a byte on, by that from the next byte on
from_next : (bs : List ℕ) (i : ℕ) → i < length bs → get_or bs i 0 < 256 → number (drop i bs) ≡ number (drop (suc i) bs) * 256 + get_or bs i 0
unfolding number
from_next bs i h fits =
    ap number (drop-cons bs i 0 h) ∙ xor_shifted (number (drop (suc i) bs)) 8 (get_or bs i 0) fits

-- which is what `from_le_bytes` makes of eight
number_is : (bs : List ℕ) → length bs ≡ 8 → ((i : ℕ) → get_or bs i 0 < 256) → from_le_bytes w64 bs ≡ number bs
unfolding number
number_is bs e fits =
    let at : (i : ℕ) → i < 8 → number (drop i bs) ≡ number (drop (suc i) bs) * 256 + get_or bs i 0 = λ i h. from_next bs i (omega arith) (fits i) in
    let all : number (drop 8 bs) ≡ 0 = ap number (drop_of_length-le bs {i = 8} (omega arith)) in
    omega (
      arith,
      all,
      at 0 (lit< tt),
      at 1 (lit< tt),
      at 2 (lit< tt),
      at 3 (lit< tt),
      at 4 (lit< tt),
      at 5 (lit< tt),
      at 6 (lit< tt),
      at 7 (lit< tt),
    )

-- eight bytes are 64 shifts of one number
pub eight : (c : ℕ) (bs : List ℕ) → length bs ≡ 8 → ((i : ℕ) → get_or bs i 0 < 256) → crc_from c bs ≡ shifts 64 (bit_xor c (from_le_bytes w64 bs))
eight c bs e fits =
    let n : 8 * length bs ≡ 64 = omega arith in
    at_once c bs ∙ rw (n, number_is bs e fits) refl

-- a CRC gone on with over some bytes and then over more
pub from_append : (c : ℕ) (bs more : List ℕ) → crc_from c (bs ++ more) ≡ crc_from (crc_from c bs) more
unfolding crc_from
from_append c [] more = refl
from_append c (b ∷ bs) more = from_append (shifts 8 (bit_xor c b)) bs more

-- the whole eights of bytes, joined again
pub joined : (k : ℕ) (bs : List ℕ) → concat (first_chunks 8 k bs) ≡ take (k * 8) bs
joined zero bs = refl
joined (suc k) bs =
    let n : suc k * 8 ≡ 8 + k * 8 = omega arith in
    ap (λ (l : List ℕ). take 8 bs ++ l) (joined k (drop 8 bs)) ∙ rw (n, take-add 8 (k * 8) bs) refl

-- gone on with from the CRC of the whole eights, over the rest, it is that of all bytes
pub whole : (bs rest : List ℕ) (eights : List (List ℕ)) (crc : ℕ) → eights ≡ first_chunks 8 (length bs / 8) bs → rest ≡ drop (length bs / 8 * 8) bs → crc ≡ crc_of (concat eights) → crc_from crc rest ≡ crc_of bs
whole bs rest eights crc ee er ec =
    let k = length bs / 8 in
    rw (ec, ee, er, joined k bs)
    (sym (from_append 0xFFFF (take (k * 8) bs) (drop (k * 8) bs)) ∙ ap crc_of (take-append-drop (k * 8) bs))

-- the CRC of no eights, and of one more
pub none : (eights : List (List ℕ)) → length eights ≡ 0 → 0xFFFF ≡ crc_of (concat eights)
unfolding crc_from
none [] e = refl
none (b ∷ bs) e = absurd (omega (arith, e))

pub one_more : (eights : List (List ℕ)) (next : List ℕ) (a b : ℕ) → a ≡ crc_of (concat eights) → b ≡ crc_from a next → b ≡ crc_of (concat (eights ++ next ∷ []))
one_more eights next a b ea eb =
    eb
    ∙ ap (λ (r : ℕ). crc_from r next) ea
    ∙ sym (from_append 0xFFFF (concat eights) next)
    ∙ rw (concat-append, append-nil) refl

-- bits add without a carry
bit_add : (d e : ℕ) → d < 2 → e < 2 → bit_xor d e ≡ (d + e) % 2
bit_add zero zero hd he = refl
bit_add zero (suc zero) hd he = refl
bit_add (suc zero) zero hd he = refl
bit_add (suc zero) (suc zero) hd he = refl
bit_add zero (suc (suc e)) hd he = absurd (omega arith)
bit_add (suc zero) (suc (suc e)) hd he = absurd (omega arith)
bit_add (suc (suc d)) e hd he = absurd (omega arith)

none_set : ones 0 ≡ 0
none_set = ones-ones 0

one_set : (n : ℕ) → ones (2 ^ n) ≡ 1
one_set n =
    let e : 1 * 2 ^ n + 0 ≡ 2 ^ n = omega arith in
    ap ones (sym e) ∙ ones_cat n 1 0 (pow_pos n) ∙ ap₂ (λ (a b : ℕ). a + b) (ones-ones 1) none_set

-- whether an odd number of bits is set keeps to exclusive-or
ones_xor : (a b : ℕ) → ones (bit_xor a b) % 2 ≡ bit_xor (ones a % 2) (ones b % 2)
ones_xor = bin_ind (λ (a : ℕ). (b : ℕ) → ones (bit_xor a b) % 2 ≡ bit_xor (ones a % 2) (ones b % 2)) base step
  where
    base : (b : ℕ) → ones b % 2 ≡ bit_xor (ones 0 % 2) (ones b % 2)
    base b = rw none_set refl

    step : (a : ℕ) → ((b : ℕ) → ones (bit_xor (a / 2) b) % 2 ≡ bit_xor (ones (a / 2) % 2) (ones b % 2)) → (b : ℕ) → ones (bit_xor a b) % 2 ≡ bit_xor (ones a % 2) (ones b % 2)
    step a ih b =
        let add : (m n : ℕ) → bit_xor (m % 2) (n % 2) ≡ (m % 2 + n % 2) % 2 = λ m n. bit_add (m % 2) (n % 2) (omega arith) (omega arith) in
        let low : bit_xor a b % 2 ≡ (a % 2 + b % 2) % 2 = xor_odd a b ∙ add a b in
        let high : ones (bit_xor a b / 2) % 2 ≡ (ones (a / 2) % 2 + ones (b / 2) % 2) % 2 = ap (λ (x : ℕ). ones x % 2) (xor_half a b) ∙ ih (b / 2) ∙ add (ones (a / 2)) (ones (b / 2)) in
        omega (arith, low, high, ones_step (bit_xor a b), ones_step a, ones_step b, add (ones a) (ones b))

-- `count_ones` tells the parity: so it does at each power of two, which has one bit set
pub parity_is : (x : ℕ) → x < 2 ^ 64 → ones x % 2 ≡ run parity x
unfolding alike
parity_is = by_bits (λ x. ones x % 2) (run parity) ones_xor (run_xor parity) 64 (powers 64 ∙ refl)
  where
    powers : (n : ℕ) → alike (λ x. ones x % 2) (run parity) n ≡ alike (λ x. 1) (run parity) n
    powers zero = refl
    powers (suc n) = rw (one_set n, powers n) refl

-- the CRC in two parts: the remainder, with an even parity, and what an odd parity adds
even : Linear
even = low 16 (xor (on narrowed folded) (on (on (on mended parity) narrowed) folded))

odd : Linear
odd = low 16 mended

parts : (x p : ℕ) → settled x p ≡ bit_xor (run even x) (run odd (run parity p))
unfolding settled even odd
parts x p =
    let r = run narrowed (run folded x) in
    let m = on mended parity in
    ap (λ (y : ℕ). bit_xor r y % 2 ^ 16) (run_xor m p r ∙ xor_comm (run m p) (run m r))
    ∙ ap (λ (y : ℕ). y % 2 ^ 16) (sym (xor_assoc r (run m r) (run m p)))
    ∙ xor_mod (bit_xor r (run m r)) (run m p) 16

-- f is 64 shifts of g on numbers of n bits, if it is so at each power of two
abbrev shifted : Linear → ℕ → ℕ
shifted g x = shifts 64 (run g x)

as_shifts : (f g : Linear) (n : ℕ) → alike (run f) (shifted g) n ≡ true → (x : ℕ) → x < 2 ^ n → run f x ≡ shifted g x
as_shifts f g n = by_bits (run f) (shifted g) (run_xor f) (λ a b. ap (shifts 64) (run_xor g a b) ∙ shifts_xor 64 (run g a) (run g b)) n

both_parts : (x : ℕ) → x < 2 ^ 64 → run (xor even (on odd parity)) x ≡ shifts 64 x
unfolding alike shift shifts even odd
both_parts = as_shifts (xor even (on odd parity)) it 64 refl

even_moves : (x : ℕ) → x < 2 ^ 64 → run even (run spread (run folded x)) ≡ shifts 64 (run even x)
unfolding alike shift shifts even
even_moves = as_shifts (on even (on spread folded)) even 64 refl

odd_stays : (d : ℕ) → d < 2 → run odd d ≡ shifts 64 (run odd d)
unfolding alike shift shifts odd
odd_stays = as_shifts odd odd 1 refl

-- a turn of the code is 64 shifts: the remainder and the parity of the CRC, each by itself
pub turn : (x p w : ℕ) → x < 2 ^ 64 → w < 2 ^ 64 → settled (bit_xor (run spread (run folded x)) w) (bit_xor p w) ≡ shifts 64 (bit_xor (settled x p) w)
turn x p w hx hw =
    let y = run spread (run folded x) in
    let d = run parity p in
    parts (bit_xor y w) (bit_xor p w)
    ∙ ap₂ bit_xor (run_xor even y w) (run_xor (on odd parity) p w)
    ∙ xor_swap (run even y) (run even w) (run odd d) (run (on odd parity) w)
    ∙ ap₂ bit_xor (ap₂ bit_xor (even_moves x hx) (odd_stays d (mod-lt _ (lit< tt)))) (both_parts w hw)
    ∙ ap (λ (c : ℕ). bit_xor c (shifts 64 w)) (sym (shifts_xor 64 (run even x) (run odd d)) ∙ ap (shifts 64) (sym (parts x p)))
    ∙ sym (shifts_xor 64 (settled x p) w)
