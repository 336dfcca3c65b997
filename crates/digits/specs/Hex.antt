-- Paper 01, the program `bench`: bytes as hex pairs, read in either case and written in capitals.
use Rattle.std.specs.Prelude.{ℕ, ◌+◌, ◌-◌, ◌*◌, ◌/◌, ◌%◌, Bool, ◌&&◌, cond, List, [], ◌∷◌, leb, ltb, Option, Some, None, is_some, unwrap_or}

-- the value of a hex digit, either case; none of another character
abbrev pub digit_of : ℕ → Option ℕ
digit_of c =
    cond (leb 0x30 c && leb c 0x39) (Some (c - 0x30))
    (cond (leb 0x41 c && leb c 0x46) (Some (c - 0x37))
    (cond (leb 0x61 c && leb c 0x66) (Some (c - 0x57))
    None))

-- two hex digits
abbrev pub pair_ok : ℕ → ℕ → Bool
pair_ok upper lower = is_some (digit_of upper) && is_some (digit_of lower)

-- their byte; a character that is no digit counts as 0
abbrev pub byte_of : ℕ → ℕ → ℕ
byte_of upper lower = 16 * unwrap_or (digit_of upper) 0 + unwrap_or (digit_of lower) 0

-- a hex digit, in capitals
abbrev pub capital : ℕ → ℕ
capital d = cond (ltb d 10) (0x30 + d) (0x37 + d)

-- a byte as a hex pair, in capitals
abbrev pub pair_of : ℕ → List ℕ
pair_of b = capital (b / 16) ∷ capital (b % 16) ∷ []
