-- Paper 01, "The directory": an item is four numbers of the constant table (address, addresses filled, words sent,
-- quantity), and the table is read four numbers at a time.
use Rattle.std.specs.Prelude.{ℕ, ◌+◌, Bool, ◌&&◌, List, [], ◌∷◌, ltb, eqb}
use Rattle.directory.specs.declared.Item.{Item}

-- address, addresses filled, words sent, quantity
abbrev pub item : ℕ → ℕ → ℕ → ℕ → Item
item start fills words quantity = record { start = start; fills = fills; words = words; quantity = quantity }

-- the items of a flat table
unfoldable pub items : List ℕ → List Item
items (a ∷ f ∷ w ∷ q ∷ l) = item a f w q ∷ items l
items (a ∷ f ∷ w ∷ []) = []
items (a ∷ f ∷ []) = []
items (a ∷ []) = []
items [] = []

-- what stands where there is no item
abbrev pub none : Item
none = item 0 0 0 0

-- the byte block: addresses count bytes
abbrev pub in_bytes : Item → Bool
in_bytes it = ltb it.start 0x1000

-- B stands in the byte block alone, where it fills 1
abbrev pub is_b : Item → Bool
is_b it = in_bytes it && eqb it.fills 1

-- where an item ends: the address after the last that it fills
abbrev pub ends : Item → ℕ
ends it = it.start + it.fills
