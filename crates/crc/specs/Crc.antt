-- Paper 01, "What the meter does with a frame", its CRC rule; the routine of documents 000, 001, 003 and 004 less the
-- final swap, which only puts the low byte first on the line.
use Rattle.std.specs.Prelude.{◌≡◌, ℕ, zero, suc, ◌+◌, ◌-◌, ◌/◌, ◌%◌, ◌<◌, Bool, true, false, ◌&&◌, cond, List, [], ◌∷◌, ◌++◌, leb, eqb, length, get_or, take, drop}
use Rattle.std.specs.Int.Bits.{bit_xor}
use Rattle.std.proofs.lemmas.List.Edits.{sets}

-- a right shift, with 0xA001 exclusive-ored in when the bit shifted out was 1
unfoldable pub shift : ℕ → ℕ
shift c = cond (eqb (c % 2) 1) (bit_xor (c / 2) 0xA001) (c / 2)

-- n right shifts
unfoldable pub shifts : ℕ → ℕ → ℕ
shifts zero c = c
shifts (suc n) c = shifts n (shift c)

-- for each byte, exclusive-or into the low half, then eight right shifts
unfoldable pub crc_from : ℕ → List ℕ → ℕ
crc_from c [] = c
crc_from c (b ∷ bs) = crc_from (shifts 8 (bit_xor c b)) bs

-- start 0xFFFF
abbrev pub crc_of : List ℕ → ℕ
crc_of bs = crc_from 0xFFFF bs

-- low byte goes first on the line
abbrev pub on_line : ℕ → List ℕ
on_line c = c % 256 ∷ c / 256 ∷ []

-- bytes with their CRC behind them
abbrev pub sealed : List ℕ → List ℕ
sealed bs = bs ++ on_line (crc_of bs)

-- what stands before the last two bytes of a frame
abbrev pub body : List ℕ → List ℕ
body frame = take (length frame - 2) frame

-- the last two bytes of a frame are a CRC, low byte first; below two bytes it ends in none
unfoldable pub ends_in : List ℕ → ℕ → Bool
ends_in frame c =
    leb 2 (length frame) &&
    (eqb (get_or frame (length frame - 2) 0) (c % 256) &&
    eqb (get_or frame (length frame - 1) 0) (c / 256))

-- a frame ends in the CRC of what stands before that
unfoldable pub intact : List ℕ → Bool
intact frame = ends_in frame (crc_of (body frame))

-- whatever a function gives of bytes is their CRC
abbrev pub TakesTheCrc : (List ℕ → ℕ → Type 0) → Type 0
TakesTheCrc gives = (bs : List ℕ) (c : ℕ) → gives bs c → c ≡ crc_of bs

-- STATEMENT: the CRC of bytes is a number of 16 bits
pub record CrcFits : Type 0 where
  pub fits : (bs : List ℕ) → ((i : ℕ) → get_or bs i 0 < 256) → crc_of bs < 65536

-- STATEMENT: a frame passes the test exactly when it is sealed
pub record IntactIsSealed : Type 0 where
  pub passes : (bs : List ℕ) → intact (sealed bs) ≡ true
  pub only : (frame : List ℕ) → intact frame ≡ true → frame ≡ sealed (body frame)

-- a buffer with the CRC of its first n bytes put behind them, and whether it has room for that; without room it stays
pub record Put (before : List ℕ) (n : ℕ) (room : Bool) (after : List ℕ) : Type 0 where
  pub answer : room ≡ leb (n + 2) (length before)
  pub bytes : after ≡ cond (leb (n + 2) (length before)) (sets before n (on_line (crc_of (take n before)))) before

-- STATEMENT: of what `Put` allows: with room, the first n bytes are then sealed; nothing behind the CRC changes, and without room nothing
pub record PutSeals (before : List ℕ) (n : ℕ) (room : Bool) (after : List ℕ) : Type 0 where
  pub front : room ≡ true → take (n + 2) after ≡ sealed (take n before)
  pub beyond : drop (n + 2) after ≡ drop (n + 2) before
  pub refused : room ≡ false → after ≡ before
