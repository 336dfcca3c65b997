-- Not the paper's, and nothing to believe: how the code takes eight bytes at once, for the contracts of its private functions. That it
-- comes to the written rule is the contract of `of`. The CRC is a remainder by t^16 + t^15 + t^2 + 1, which is
-- (t + 1)(t^15 + t + 1): so it is known by its remainder by t^15 + t + 1, for which t^30 is t^2 + 1 and t^60 is t^4 + 1,
-- and by its parity. In a number the highest power is the lowest bit.
use Rattle.std.specs.Prelude.{ℕ, ◌*◌, ◌/◌, ◌%◌, ◌^◌}
use Rattle.std.specs.Int.Bits.{bit_xor}

-- what shifts, masks and exclusive-ors of 64-bit numbers make of a number
pub data Linear : Type 0 where
  it : Linear
  shr shl low : ℕ → Linear → Linear
  xor on : Linear → Linear → Linear

-- what each makes of a number
abbrev pub run : Linear → ℕ → ℕ
run it x = x
run (shr k f) x = run f x / 2 ^ k
run (shl k f) x = run f x * 2 ^ k % 2 ^ 64
run (low k f) x = run f x % 2 ^ k
run (xor f g) x = bit_xor (run f x) (run g x)
run (on f g) x = run f (run g x)

-- 28 shifts, for the remainder: each of the lower 32 bits stays and is put two places up as well, since t^30 is t^2 + 1
abbrev pub folded : Linear
folded = xor (xor (shl 4 (shr 32 it)) (low 32 it)) (shl 2 (low 32 it))

-- 36 shifts of 36 bits, for the remainder: each bit is put 20 and 24 places up instead, since t^60 is t^4 + 1
abbrev pub spread : Linear
spread = xor (shl 20 it) (shl 24 it)

-- 36 shifts of 36 bits, for the remainder, down to 16: 22 since t^30 is t^2 + 1, then 14 since t^15 is t + 1
abbrev pub narrowed : Linear
narrowed =
    on (xor (xor (shl 1 (shr 15 it)) (low 15 it)) (shl 1 (low 15 it)))
    (xor (xor (shr 22 it) (shl 6 (low 22 it))) (shl 8 (low 22 it)))

-- the upper half put onto the lower, down to one bit
abbrev halved : ℕ → Linear → Linear
halved k f = on (xor it (shr k it)) f

-- 1 if an odd number of the bits are set
abbrev pub parity : Linear
parity = low 1 (halved 1 (halved 2 (halved 4 (halved 8 (halved 16 (halved 32 it))))))

-- t^15 + t + 1 where the bit is set: it has no remainder, and an odd parity
abbrev pub mended : Linear
mended = xor (xor it (shl 14 it)) (shl 15 it)

-- the CRC with the remainder of 64 shifts of x, and the parity of p
unfoldable pub settled : ℕ → ℕ → ℕ
settled x p =
    bit_xor (run (on narrowed folded) x) (run (on mended parity) (bit_xor p (run (on narrowed folded) x))) % 2 ^ 16
