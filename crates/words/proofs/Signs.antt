-- A magnitude below half of all values leaves the highest bit clear, and all values less such a magnitude have it set.
use mathlib.Core.Path.{◌≡◌, refl}
use mathlib.Core.Bool.{Bool, true, false, ◌&&◌}
use Prim.Native.Nat.{ℕ, zero, suc, ◌-◌, ◌/◌, ◌%◌, ◌^◌, ◌<◌}
use native.Mathlib.Nat.{sub-zero, mod-eq_of_lt, mod_self, mod-lt}
use native.Mathlib.Omega.{arith}
use lib.Dec.{ltb}
use borrow.Author.Tests.{le-leb, lt-leb, lt-ltb}
use Rattle.words.specs.Signed.{twos, negative_in, magnitude_in, SignedBack}

pub twos_plain : (n m : ℕ) → twos n false m ≡ m
unfolding twos
twos_plain n m = refl

pub twos_zero : (n : ℕ) → twos n true 0 ≡ 0
unfolding twos
twos_zero n = rw sub-zero (mod_self (65536 ^ n))

pub twos_negative : (n m : ℕ) → 0 < m → m < 65536 ^ n → twos n true m ≡ 65536 ^ n - m
unfolding twos
twos_negative n m z h = mod-eq_of_lt (omega arith)

-- a magnitude that fits is sent as a number that fits
pub twos_fits : (n : ℕ) (negative : Bool) (m : ℕ) → m < 65536 ^ n → twos n negative m < 65536 ^ n
unfolding twos
twos_fits n true m h = mod-lt (65536 ^ n - m) (omega (arith, h))
twos_fits n false m h = h

-- the lowest words of a number in four words are the number in these alone
pub lowest_word : (negative : Bool) (m : ℕ) → m < 65536 → twos 4 negative m % 65536 ≡ twos 1 negative m
unfolding twos
lowest_word true m h = omega (arith, h)
lowest_word false m h = omega (arith, h)

pub lowest_long : (negative : Bool) (m : ℕ) → m < 4294967296 → twos 4 negative m % 4294967296 ≡ twos 2 negative m
unfolding twos
lowest_long true m h = omega (arith, h)
lowest_long false m h = omega (arith, h)

sign : (n : ℕ) (negative : Bool) (m : ℕ) → m < 65536 ^ n / 2 → negative_in n (twos n negative m) ≡ (negative && ltb 0 m)
sign n false m h = rw twos_plain (lt-leb _ _ h)
sign n true zero h = rw twos_zero (lt-leb _ _ h)
sign n true (suc m) h = rw (twos_negative n (suc m) (omega arith) (omega arith), le-leb (65536 ^ n / 2) (65536 ^ n - suc m) (omega arith), lt-ltb 0 (suc m) (omega arith)) refl

magnitude : (n : ℕ) (negative : Bool) (m : ℕ) → m < 65536 ^ n / 2 → magnitude_in n (twos n negative m) ≡ m
magnitude n false m h = rw (twos_plain, lt-leb _ _ h) refl
magnitude n true zero h = rw (twos_zero, lt-leb _ _ h) refl
magnitude n true (suc m) h =
    rw (twos_negative n (suc m) (omega arith) (omega arith), le-leb (65536 ^ n / 2) (65536 ^ n - suc m) (omega arith)) (omega arith)

pub signed_back : SignedBack
signed_back = record { sign = sign; magnitude = magnitude }
