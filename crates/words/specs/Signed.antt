-- Paper 01, "The directory": signed values are two's complement, in one word or in two. A signed value is a magnitude,
-- with a flag where it is negative.
use Rattle.std.specs.Prelude.{◌≡◌, ℕ, ◌-◌, ◌/◌, ◌%◌, ◌^◌, ◌<◌, Bool, ◌&&◌, cond, leb, ltb}

-- a signed value in n words
unfoldable pub twos : ℕ → Bool → ℕ → ℕ
twos n negative magnitude = cond negative ((65536 ^ n - magnitude) % 65536 ^ n) magnitude

-- n words hold a negative value where their highest bit is set
abbrev pub negative_in : ℕ → ℕ → Bool
negative_in n v = leb (65536 ^ n / 2) v

-- the magnitude of what n words hold: a negative value is 65536^n more than it is
abbrev pub magnitude_in : ℕ → ℕ → ℕ
magnitude_in n v = cond (negative_in n v) (65536 ^ n - v) v

-- STATEMENT: sign and magnitude are read back, over any width; a zero has no sign
pub record SignedBack : Type 0 where
  pub sign : (n : ℕ) (negative : Bool) (m : ℕ) → m < 65536 ^ n / 2 → negative_in n (twos n negative m) ≡ (negative && ltb 0 m)
  pub magnitude : (n : ℕ) (negative : Bool) (m : ℕ) → m < 65536 ^ n / 2 → magnitude_in n (twos n negative m) ≡ m
