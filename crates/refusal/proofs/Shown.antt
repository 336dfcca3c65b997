-- `{:02}` writes a number in two digits at least.
use Rattle.std.proofs.Common.{◌≡◌, ℕ, ◌-◌, ◌^◌, length, refl, arith, append-nil}
use Rattle.std.specs.Fmt.{decimal, styled_decimal, padded_integral, char_count, format_spec}
use Rattle.refusal.specs.Words.{two_digits}

pub two_wide : (n : ℕ) → styled_decimal (format_spec 32 0 4 2 (2 ^ 64 - 1)) n ≡ two_digits n
unfolding padded_integral char_count
two_wide n =
    let short : 2 - length (decimal n) - 0 - 0 ≡ 2 - length (decimal n) = omega arith in
    rw (short, append-nil (decimal n)) refl
