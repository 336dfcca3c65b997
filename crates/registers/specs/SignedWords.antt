-- Paper 01, "Steps of the registers", Powers, and "The directory", the power factor: a signed value as a register holds it. A power is a
-- magnitude in hundredths of W or var, a factor one in thousandths, each with a flag where it is negative.
use Rattle.std.specs.Prelude.{ℕ, ◌/◌, Bool}
use Rattle.words.specs.Signed.{twos}

-- signed words (0x1518 on) are whole W or var, cut toward zero
abbrev pub signed_word : Bool → ℕ → ℕ
signed_word negative hundredths = twos 2 negative (hundredths / 100)

-- power factor in hundredths is thousandths cut toward zero
abbrev pub factor_hundredths : Bool → ℕ → ℕ
factor_hundredths negative thousandths = twos 1 negative (thousandths / 10)

-- power factor in thousandths
abbrev pub factor_thousandths : Bool → ℕ → ℕ
factor_thousandths negative thousandths = twos 2 negative thousandths
