-- A frame passes the test exactly when it is sealed, since a frame of two bytes or more is what stands before its last two, and then
-- those two.
-- Whoever knows the CRC of what stands before them has only these two to look at.
-- With room, `put` seals the first n bytes, since the two bytes that it stores stand between them and what is left as it was.
-- The CRC of bytes fits 16 bits, since neither a right shift nor an exclusive-or of 16-bit numbers makes a longer one.
use mathlib.Core.Path.{◌≡◌, refl, sym, ap, ap₂, ◌∙◌}
use mathlib.Core.Bool.{Bool, true, false, ◌&&◌, cond, and-true, and-eq-true_iff}
use mathlib.Core.List.{List, [], ◌∷◌, ◌++◌}
use Prim.Native.Nat.{ℕ, zero, suc, ◌+◌, ◌-◌, ◌/◌, ◌%◌, ◌^◌, ◌≤◌, ◌<◌}
use native.Mathlib.Omega.{arith}
use lib.Bits.{bit_xor, xor_lt}
use lib.Dec.{leb, eqb, lit<}
use lib.ListN.{length, get_or, take, drop, length-append, length-drop, take-append-drop, drop_of_length-le}
use lib.Seq.{sets-eq, length-take-le, drop-cons, take_at, drop_at, get_or_at, get_or-append-add}
use borrow.Author.Tests.{le-leb, lt-leb, eq-eqb, ne_eqb, leb-true, eqb-true}
use Rattle.std.proofs.lemmas.Bool.{cases_eq, cases_lt, false_from_ne_true}
use lib.Pointwise.{pointwise_long}
use mathlib.Core.Logic.{◌⊎◌, inl, inr}
use Rattle.std.specs.List.{fold, ends_with}
use Rattle.std.specs.Int.{to_le_bytes, w16}
use Rattle.crc.specs.Crc.{shift, shifts, crc_from, crc_of, on_line, sealed, body, ends_in, intact, CrcFits, IntactIsSealed, Put, PutSeals}

-- a test of two bytes, the other way round
eqb_swap : (a b : ℕ) → eqb a b ≡ eqb b a
eqb_swap a b = cases (cases_eq a b)
  where
    cases : (a ≡ b) ⊎ (a ≡ b → ⊥) → eqb a b ≡ eqb b a
    cases (inl e) = eq-eqb a b e ∙ sym (eq-eqb b a (sym e))
    cases (inr n) = ne_eqb a b n ∙ sym (ne_eqb b a (λ e. n (sym e)))

-- gone on with byte by byte, the CRC is a fold
pub from_is_fold : (c : ℕ) (bs : List ℕ) → fold (λ c b. shifts 8 (bit_xor c b)) c bs ≡ crc_from c bs
unfolding crc_from
from_is_fold c [] = refl
from_is_fold c (b ∷ bs) = from_is_fold (shifts 8 (bit_xor c b)) bs

-- the bytes of a CRC, low one first, are what goes on the line
pub line_bytes : (c : ℕ) → c < 65536 → to_le_bytes w16 c ≡ on_line c
line_bytes c h =
    let high : c / 256 % 256 ≡ c / 256 = omega arith in
    rw high refl

-- below two bytes a frame ends in no CRC, and so is not intact
pub ends_in_none : (frame : List ℕ) (c : ℕ) → length frame < 2 → false ≡ ends_in frame c
unfolding ends_in
ends_in_none frame c h = simp (lt-leb 2 (length frame) h)

pub short_broken : (frame : List ℕ) → length frame < 2 → false ≡ intact frame
unfolding intact
short_broken frame h = ends_in_none frame (crc_of (body frame)) h

-- the CRC of what stands before the last two bytes is what they are held to
pub ends_intact : (frame : List ℕ) (c : ℕ) → c ≡ crc_of (body frame) → ends_in frame c ≡ intact frame
unfolding intact
ends_intact frame c e = ap (ends_in frame) e

pub length_sealed : (bs : List ℕ) → length (sealed bs) ≡ length bs + 2
length_sealed bs = length-append bs (on_line (crc_of bs))

passes : (bs : List ℕ) → intact (sealed bs) ≡ true
unfolding ends_in intact
passes bs =
    let lo = crc_of bs % 256 in
    let hi = crc_of bs / 256 in
    let n = length_sealed bs in
    let low : length bs ≡ length (sealed bs) - 2 = omega (arith, n) in
    let high : length (sealed bs) - 1 ≡ length bs + 1 = omega (arith, n) in
    let front = take_at bs (lo ∷ hi ∷ []) _ low in
    simp (
      le-leb 2 (length (sealed bs)) (omega (arith, n)),
      front,
      get_or_at bs lo (hi ∷ []) 0 _ low,
      high,
      get_or-append-add bs (lo ∷ hi ∷ []) 1 0,
      eq-eqb lo lo refl,
      eq-eqb hi hi refl,
    )

-- the last two bytes of a frame
ending : (frame : List ℕ) → 2 ≤ length frame → drop (length frame - 2) frame ≡ get_or frame (length frame - 2) 0 ∷ get_or frame (length frame - 1) 0 ∷ []
ending frame h =
    let next : suc (length frame - 2) ≡ length frame - 1 = omega arith in
    rw (
      drop-cons frame (length frame - 2) 0 (omega arith),
      next,
      drop-cons frame (length frame - 1) 0 (omega arith),
      drop_of_length-le frame {i = suc (length frame - 1)} (omega arith),
    ) refl

-- a frame, cut before these
last_two : (frame : List ℕ) → 2 ≤ length frame → frame ≡ body frame ++ get_or frame (length frame - 2) 0 ∷ get_or frame (length frame - 1) 0 ∷ []
last_two frame h =
    sym (take-append-drop (length frame - 2) frame) ∙ ap (λ (l : List ℕ). body frame ++ l) (ending frame h)

-- a frame ends in what of a CRC goes on the line exactly when its last two bytes are these
pub ends_line : (frame : List ℕ) (c : ℕ) → c < 65536 → ends_with eqb frame (to_le_bytes w16 c) ≡ ends_in frame c
unfolding ends_in
ends_line frame c h = cases (cases_lt (length frame) 2)
  where
    cases : (length frame < 2) ⊎ (2 ≤ length frame) → ends_with eqb frame (to_le_bytes w16 c) ≡ ends_in frame c
    cases (inl short) =
        let long = pointwise_long eqb (to_le_bytes w16 c) (drop (length frame - 2) frame) in
        false_from_ne_true _ (λ t. omega (arith, long t, length-drop (length frame - 2) frame)) ∙ ends_in_none frame c short
    cases (inr long) = simp (le-leb 2 (length frame) long, line_bytes c h, ending frame long, and-true, eqb_swap) refl

-- of two bytes or more the last two are compared
pub ends_bytes : (frame : List ℕ) (c : ℕ) → 2 ≤ length frame → ends_in frame c ≡ (eqb (get_or frame (length frame - 2) 0) (c % 256) && eqb (get_or frame (length frame - 1) 0) (c / 256))
unfolding ends_in
ends_bytes frame c h = simp (le-leb 2 (length frame) h)

-- what the two tests of bytes say together
agree : (a x b y : ℕ) → (eqb a x && eqb b y) ≡ true → (a ≡ x) × (b ≡ y)
agree a x b y t =
    let e = (and-eq-true_iff (eqb a x) (eqb b y)).0 t in
    (eqb-true a x e.0, eqb-true b y e.1)

only : (frame : List ℕ) → intact frame ≡ true → frame ≡ sealed (body frame)
unfolding ends_in intact
only frame h =
    let t = (and-eq-true_iff (leb 2 (length frame)) _).0 h in
    let e = agree (get_or frame (length frame - 2) 0) (crc_of (body frame) % 256) (get_or frame (length frame - 1) 0) (crc_of (body frame) / 256) t.1 in
    last_two frame (leb-true 2 (length frame) t.0)
    ∙ ap₂ (λ (lo hi : ℕ). body frame ++ lo ∷ hi ∷ []) e.0 e.1

pub intact_is_sealed : IntactIsSealed
intact_is_sealed = record { passes = passes; only = only }

-- with room, the buffer afterwards is the sealed bytes and then what was left
module _ (before : List ℕ) (n : ℕ) (room : Bool) (after : List ℕ) (p : Put before n room after) where
  pub put_parts : n + 2 ≤ length before → after ≡ sealed (take n before) ++ drop (n + 2) before
  put_parts h = p.bytes ∙ simp (le-leb _ _ h, sets-eq (on_line (crc_of (take n before))) before n h)

  long : n + 2 ≤ length before → length (sealed (take n before)) ≡ n + 2
  long h = omega (arith, length_sealed (take n before), length-take-le n before (omega arith))

  refused : room ≡ false → after ≡ before
  refused e = p.bytes ∙ simp (sym p.answer ∙ e)

  front : room ≡ true → take (n + 2) after ≡ sealed (take n before)
  front e =
      let h = leb-true (n + 2) (length before) (sym p.answer ∙ e) in
      rw (put_parts h, take_at _ (drop (n + 2) before) (n + 2) (long h))

  beyond_if : (b : Bool) → room ≡ b → drop (n + 2) after ≡ drop (n + 2) before
  beyond_if true e =
      let h = leb-true (n + 2) (length before) (sym p.answer ∙ e) in
      rw (put_parts h, drop_at _ (drop (n + 2) before) (n + 2) (long h))
  beyond_if false e = ap (drop (n + 2)) (refused e)

pub put_seals : (before : List ℕ) (n : ℕ) (room : Bool) (after : List ℕ) → Put before n room after → PutSeals before n room after
put_seals before n room after p =
    record {
      front = front before n room after p;
      beyond = beyond_if before n room after p room refl;
      refused = refused before n room after p;
    }

-- a right shift keeps a number within 16 bits
shift_fits : (c : ℕ) → c < 2 ^ 16 → shift c < 2 ^ 16
unfolding shift
shift_fits c h = cases (eqb (c % 2) 1)
  where
    half : c / 2 < 2 ^ 16
    half = omega arith

    cases : (b : Bool) → cond b (bit_xor (c / 2) 0xA001) (c / 2) < 2 ^ 16
    cases true = xor_lt 16 (c / 2) 0xA001 half (lit< tt)
    cases false = half

shifts_fit : (n c : ℕ) → c < 2 ^ 16 → shifts n c < 2 ^ 16
unfolding shifts
shifts_fit zero c h = h
shifts_fit (suc n) c h = shifts_fit n (shift c) (shift_fits c h)

from_fits : (c : ℕ) (bs : List ℕ) → c < 2 ^ 16 → ((i : ℕ) → get_or bs i 0 < 2 ^ 8) → crc_from c bs < 2 ^ 16
unfolding crc_from
from_fits c [] h bytes = h
from_fits c (b ∷ bs) h bytes =
    from_fits (shifts 8 (bit_xor c b)) bs (shifts_fit 8 _ (xor_lt 16 c b h (omega (arith, bytes 0)))) (λ i. bytes (suc i))

pub crc_fits : CrcFits
crc_fits = record { fits = λ bs bytes. from_fits 0xFFFF bs (lit< tt) bytes }
