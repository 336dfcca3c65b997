-- Paper 01, "Steps of the registers", Powers, and the power limit of "The meter's record". A power is a magnitude in hundredths
-- of W, var or VA.
use Rattle.std.specs.Prelude.{ℕ, ◌/◌, cond, ltb}

-- in hundredths if T < 50,000, else in whole units: the hundredths that one count of a power register stands for
unfoldable pub power_unit : ℕ → ℕ
power_unit t = cond (ltb t 50000) 1 100

-- the larger power limit
abbrev pub top_power : ℕ
top_power = 214748364799

-- power limit: 4,294,967,295 if T < 50,000, else 214,748,364,799
unfoldable pub power_limit : ℕ → ℕ
power_limit t = cond (ltb t 50000) 4294967295 top_power

-- P, Q, S registers hold a magnitude in that unit, rounded down
abbrev pub power_register : ℕ → ℕ → ℕ
power_register t hundredths = hundredths / power_unit t
