-- Paper 01, "The directory": the rules of a directory, as tests that are computed once over a whole table.
use Rattle.std.specs.Prelude.{ℕ, ◌+◌, ◌*◌, List, [], ◌∷◌, Bool, true, ◌&&◌, ◌||◌, cond, leb, ltb, eqb}
use Rattle.directory.specs.declared.Item.{Item}
use Rattle.directory.specs.Item.{in_bytes, ends}
use Rattle.directory.specs.Quantity.{width_of}

-- ascending, without overlap: each item fills something, and starts where the one before ends, or after
unfoldable pub ascends : ℕ → List Item → Bool
ascends from [] = true
ascends from (it ∷ its) = leb from it.start && (ltb 0 it.fills && ascends (ends it) its)

-- every item passes a test
unfoldable pub every : (Item → Bool) → List Item → Bool
every test [] = true
every test (it ∷ its) = test it && every test its

-- one word is sent, or two
abbrev pub narrow : Item → Bool
narrow it = leb 1 it.words && leb it.words 2

-- what the search for an item and the run of a read rest on
abbrev pub ruled : List Item → Bool
ruled its = ascends 0 its && every narrow its

-- L sends two words and fills 4 addresses of the byte block, W one and 2, B one and 1; in the word blocks L 2 and 2, W 1 and 1
abbrev pub shaped : Item → Bool
shaped it =
    cond (in_bytes it)
    (cond (eqb it.words 2) (eqb it.fills 4) (eqb it.words 1 && (eqb it.fills 2 || eqb it.fills 1)))
    ((eqb it.words 2 && eqb it.fills 2) || (eqb it.words 1 && eqb it.fills 1))

-- the bytes that an item has room for: L 4, W 2, B 1
abbrev pub room_of : Item → ℕ
room_of it = cond (in_bytes it) it.fills (2 * it.words)

-- what an item shows is a quantity, has room in it, and takes every word of it
abbrev pub meant : Item → Bool
meant it =
    leb 1 (width_of it.quantity) &&
    leb (width_of it.quantity) (room_of it) &&
    ltb (2 * it.words) (2 + width_of it.quantity)

-- the tests of a directory, computed over the whole of it
abbrev pub tested : List Item → Bool
tested its = ruled its && (every shaped its && every meant its)
