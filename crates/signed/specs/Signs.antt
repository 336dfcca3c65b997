-- Paper 01, "The meter's record": P and Q are signed. A signed number is its magnitude, and whether it is negative; "Steps of the
-- registers" has its sign word.
use Rattle.std.specs.Prelude.{ℕ, Bool, true, false, cond, ℤ, pos, negsuc, nat_abs}
use Rattle.signed.specs.declared.Signed.{Signed}

-- zero is not negative
abbrev pub negative : ℤ → Bool
negative (pos n) = false
negative (negsuc n) = true

-- a number as its magnitude and its sign
abbrev pub signed_of : ℤ → Signed
signed_of number = record { negative = negative number; magnitude = nat_abs number }

-- a positive number itself, else 0
abbrev pub above_of : Signed → ℕ
above_of s = cond s.negative 0 s.magnitude

-- the magnitude of a negative number, else 0
abbrev pub below_of : Signed → ℕ
below_of s = cond s.negative s.magnitude 0

-- sign words: 0 for zero or more, 1 for negative
abbrev pub sign_word : Bool → ℕ
sign_word negative = cond negative 1 0
