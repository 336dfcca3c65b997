-- Paper 01, the program `bench`: one frame a line as hex pairs, either case, parted by single spaces; the reply so in
-- capitals.
use Rattle.std.specs.Prelude.{◌≡◌, ℕ, ◌+◌, ◌*◌, ◌<◌, min, Bool, true, false, ◌&&◌, cond, List, [], ◌∷◌, ◌++◌, leb, eqb, length, get_or, take, Option, Some, None}
use Rattle.std.proofs.lemmas.List.Edits.{sets}
use Rattle.digits.specs.Hex.{pair_ok, byte_of, pair_of}

-- each line feed ends a line, as does the end of input
unfoldable pub line_length : List ℕ → ℕ
line_length [] = 0
line_length (c ∷ cs) = cond (eqb c 0x0A) 0 (1 + line_length cs)

-- hex pairs, parted by single spaces
unfoldable pub pairs_ok : List ℕ → Bool
pairs_ok (upper ∷ lower ∷ space ∷ rest) = pair_ok upper lower && eqb space 0x20 && pairs_ok rest
pairs_ok (upper ∷ lower ∷ []) = pair_ok upper lower
pairs_ok (c ∷ []) = false
pairs_ok [] = false

-- their bytes
unfoldable pub bytes_of : List ℕ → List ℕ
bytes_of (upper ∷ lower ∷ space ∷ rest) = byte_of upper lower ∷ bytes_of rest
bytes_of (upper ∷ lower ∷ []) = byte_of upper lower ∷ []
bytes_of (c ∷ []) = []
bytes_of [] = []

-- an empty line is an empty frame; any other holds pairs
abbrev pub line_ok : List ℕ → Bool
line_ok [] = true
line_ok (c ∷ cs) = pairs_ok (c ∷ cs)

-- a line in, the length of its frame out, as much of it as there is room for; none of a bad line
abbrev pub line_of : List ℕ → ℕ → Option ℕ
line_of line room = cond (line_ok line) (Some (min (length (bytes_of line)) room)) None

-- the buffer then: its bytes stand at the start, and the rest is as it was
abbrev pub frame_over : List ℕ → List ℕ → List ℕ
frame_over line buffer = cond (line_ok line) (sets buffer 0 (take (length buffer) (bytes_of line))) buffer

-- all that the contract of `frame` allows: its answer, and every byte of the buffer
pub record FrameRead (line before : List ℕ) (answer : Option ℕ) (after : List ℕ) : Type 0 where
  pub told : answer ≡ line_of line (length before)
  pub bytes : after ≡ frame_over line before

-- bytes as hex pairs in capitals, parted by single spaces
unfoldable pub text_of : List ℕ → List ℕ
text_of [] = []
text_of (b ∷ []) = pair_of b
text_of (b ∷ c ∷ bs) = pair_of b ++ (0x20 ∷ text_of (c ∷ bs))

-- there is room for three characters a byte
abbrev pub text_fits : List ℕ → ℕ → Bool
text_fits bytes room = leb (3 * length bytes) room

-- bytes in, the length of their text out; none without room
abbrev pub text_length : List ℕ → ℕ → Option ℕ
text_length bytes room = cond (text_fits bytes room) (Some (length (text_of bytes))) None

-- the buffer then: the text stands at the start, and the rest is as it was
abbrev pub text_over : List ℕ → List ℕ → List ℕ
text_over bytes buffer = cond (text_fits bytes (length buffer)) (sets buffer 0 (text_of bytes)) buffer

-- all that the contract of `text` allows: its answer, and every byte of the buffer
pub record TextPut (frame before : List ℕ) (answer : Option ℕ) (after : List ℕ) : Type 0 where
  pub told : answer ≡ text_length frame (length before)
  pub bytes : after ≡ text_over frame before

-- STATEMENT: what is written as a line is read as the same bytes
pub record TextBack : Type 0 where
  pub good : (bytes : List ℕ) → ((i : ℕ) → get_or bytes i 0 < 256) → line_ok (text_of bytes) ≡ true
  pub same : (bytes : List ℕ) → ((i : ℕ) → get_or bytes i 0 < 256) → bytes_of (text_of bytes) ≡ bytes
