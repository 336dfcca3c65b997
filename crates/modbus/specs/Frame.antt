-- Paper 01, "What the meter does with a frame": the fields of a frame (documents 001 and 003, 2.2), and steps 2 and 5 as far
-- as they speak of the frame alone.
use Rattle.std.specs.Prelude.{ℕ, zero, suc, ◌+◌, ◌*◌, Bool, ◌&&◌, ◌||◌, not, List, [], ◌∷◌, leb, ltb, eqb, length, get_or}
use Rattle.crc.specs.Crc.{intact}
use Rattle.words.specs.Words.{word_at}

-- the device address
abbrev pub address_of : List ℕ → ℕ
address_of frame = get_or frame 0 0

-- the functional code
abbrev pub function_of : List ℕ → ℕ
function_of frame = get_or frame 1 0

-- function 0x03
abbrev pub is_read : List ℕ → Bool
is_read frame = eqb (function_of frame) 0x03

-- function 0x10
abbrev pub is_write : List ℕ → Bool
is_write frame = eqb (function_of frame) 0x10

-- the first word's address
abbrev pub start_of : List ℕ → ℕ
start_of frame = word_at frame 2

-- the word number
abbrev pub word_number : List ℕ → ℕ
word_number frame = word_at frame 4

-- of a write: the byte number
abbrev pub byte_number : List ℕ → ℕ
byte_number frame = get_or frame 6 0

-- n words that stand from a place on
unfoldable pub words_at : ℕ → List ℕ → ℕ → List ℕ
words_at zero l at = []
words_at (suc n) l at = word_at l at ∷ words_at n l (at + 2)

-- of a write: the values, behind the byte number
abbrev pub write_values : List ℕ → List ℕ
write_values frame = words_at (word_number frame) frame 7

-- 2. Silence: fewer than 4 or more than 256 bytes; wrong CRC; address neither 0 nor own; function 0x80 or above
unfoldable pub silence : ℕ → List ℕ → Bool
silence own frame =
    (ltb (length frame) 4 || ltb 256 (length frame)) ||
    not (intact frame) ||
    (not (eqb (address_of frame) 0) && not (eqb (address_of frame) own)) ||
    leb 0x80 (function_of frame)

-- 5. word number not 0, byte number twice it, length 9 plus byte number, and so 9 at least; else error 03
unfoldable pub write_shaped : List ℕ → Bool
write_shaped frame =
    not (ltb (length frame) 9) &&
    (not (eqb (word_number frame) 0) &&
    eqb (byte_number frame) (2 * word_number frame) &&
    eqb (length frame) (9 + byte_number frame))
