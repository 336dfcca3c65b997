-- Paper 01, "The directory": setup ranges. Other words take any value.
use Rattle.std.specs.Prelude.{ℕ, ◌+◌, List, [], ◌∷◌, Bool, true, ◌&&◌, ◌||◌, cond, leb, eqb}

-- the setup word at an address may hold a value
unfoldable pub word_ok : ℕ → ℕ → Bool
word_ok address value =
    cond (eqb address 0x2005) (leb value 1)
    (cond (eqb address 0x200a) (leb value 6)
    (cond (eqb address 0x200b) (eqb value 0 || eqb value 3)
    (cond (leb 0x200c address && leb address 0x200e) (leb value 10)
    (cond (eqb address 0x2215) (leb value 5)
    (cond (eqb address 0x2216) (leb value 6)
    (cond (eqb address 0x2217) (leb value 1)
    true))))))

-- the words of a group, from its first address on, may each hold their value
unfoldable pub group_ok : ℕ → List ℕ → Bool
group_ok address [] = true
group_ok address (w ∷ ws) = word_ok address w && group_ok (address + 1) ws
