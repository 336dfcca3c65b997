-- A digit in capitals is read back, on either side of the test that `capital` makes, so a byte's pair is a hex pair of that byte.
use mathlib.Core.Path.{◌≡◌, refl}
use mathlib.Core.Bool.{Bool, true, false, cond}
use Prim.Native.Nat.{ℕ, ◌+◌, ◌-◌, ◌/◌, ◌%◌, ◌<◌}
use native.Mathlib.Omega.{arith}
use Rattle.std.specs.Prelude.{Some}
use lib.Dec.{ltb}
use borrow.Author.Tests.{ltb-true, ltb-false, le-leb, lt-leb}
use Rattle.digits.specs.Hex.{digit_of, pair_ok, byte_of, capital}

-- on either side of the test that `capital` makes
digit_at : (d : ℕ) → d < 16 → (low : Bool) → ltb d 10 ≡ low → digit_of (cond low (0x30 + d) (0x37 + d)) ≡ Some d
digit_at d h true t =
    let l = ltb-true d 10 t in
    let e : 0x30 + d - 0x30 ≡ d = omega arith in
    simp (le-leb 0x30 (0x30 + d) (omega arith), le-leb (0x30 + d) 0x39 (omega arith), e)
digit_at d h false t =
    let l = ltb-false d 10 t in
    let e : 0x37 + d - 0x37 ≡ d = omega arith in
    simp (le-leb 0x30 (0x37 + d) (omega arith), lt-leb (0x37 + d) 0x39 (omega arith), le-leb 0x41 (0x37 + d) (omega arith), le-leb (0x37 + d) 0x46 (omega arith), e)

digit_back : (d : ℕ) → d < 16 → digit_of (capital d) ≡ Some d
digit_back d h = digit_at d h (ltb d 10) refl

module _ (b : ℕ) (h : b < 256) where
  upper_back : digit_of (capital (b / 16)) ≡ Some (b / 16)
  upper_back = digit_back (b / 16) (omega arith)

  lower_back : digit_of (capital (b % 16)) ≡ Some (b % 16)
  lower_back = digit_back (b % 16) (omega arith)

  pub pair_good : pair_ok (capital (b / 16)) (capital (b % 16)) ≡ true
  pair_good = rw (upper_back, lower_back) refl

  pub pair_same : byte_of (capital (b / 16)) (capital (b % 16)) ≡ b
  pair_same = rw (upper_back, lower_back) (omega arith)
