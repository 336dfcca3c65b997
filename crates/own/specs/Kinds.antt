-- Paper 01, "Collector": the list of readings, whose order numbers the kinds; here by where the paper's directory has the first of each.
use Rattle.std.specs.Prelude.{◌≡◌, ℕ, ◌/◌, cond, List, [], ◌∷◌, map, eqb}
use Rattle.directory.specs.declared.Item.{Item}
use Rattle.own.specs.Table.{directory}

-- the address of the first item of a kind; 0 where there is none
unfoldable pub first_of_kind : List Item → ℕ → ℕ
first_of_kind [] kind = 0
first_of_kind (it ∷ its) kind = cond (eqb (it.quantity / 64) kind) it.start (first_of_kind its kind)

-- STATEMENT: the kinds from 1 on are, in the paper's order: voltage (0x301), current (0x30d), power (0x319), signed power (0x1518);
-- energy count (0x325), Low (0x1500), High (0x1502), wrap (0x1540); factor (0x33d), sign (0x347), sector (0x33f), frequency
-- (0x339); KTA (0x100), KTV (0x102), sequence (0x340), plain word (0x300)
pub record KindsInOrder : Type 0 where
  pub first : map (first_of_kind directory) (1 ∷ 2 ∷ 3 ∷ 4 ∷ []) ≡ 0x301 ∷ 0x30d ∷ 0x319 ∷ 0x1518 ∷ []
  pub energies : map (first_of_kind directory) (5 ∷ 6 ∷ 7 ∷ 8 ∷ []) ≡ 0x325 ∷ 0x1500 ∷ 0x1502 ∷ 0x1540 ∷ []
  pub others : map (first_of_kind directory) (9 ∷ 10 ∷ 11 ∷ 12 ∷ []) ≡ 0x33d ∷ 0x347 ∷ 0x33f ∷ 0x339 ∷ []
  pub last : map (first_of_kind directory) (13 ∷ 14 ∷ 15 ∷ 16 ∷ []) ≡ 0x100 ∷ 0x102 ∷ 0x340 ∷ 0x300 ∷ []
