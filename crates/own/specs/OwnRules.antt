-- Paper 01, "The directory", with request 1: what is true of the 148 items, paper 01's 142 and request 1's six.
use Rattle.std.specs.Prelude.{◌≡◌, ℕ, suc, Bool, cond, List, [], ◌∷◌, map, T, eqb, length, get_or}
use Rattle.directory.specs.declared.Item.{Item}
use Rattle.directory.specs.Item.{none, in_bytes}
use Rattle.directory.specs.Quantity.{quantity, power, energy_count, low, high, wrap, plain, average, peak, pos_ea, neg_ea, pos_er, neg_er, minutes}
use Rattle.directory.specs.Views.{passes}
use Rattle.directory.specs.Tenant.{tenant_of, hides}
use Rattle.own.specs.Table.{directory}
use Rattle.own.specs.Own.{own}

-- STATEMENT: there are 148 items, a read asks for 120 words at the most, and both pass the tests: the items ascending, without overlap,
-- each of the shape of its block and with room for what it shows
pub record OwnPasses : Type 0 where
  pub count : length directory ≡ 148
  pub most : own.most ≡ 120
  pub passed : T (passes own)

-- the addresses at which a quantity stands
unfoldable pub places_of : ℕ → List Item → List ℕ
places_of q [] = []
places_of q (it ∷ its) = cond (eqb it.quantity q) (it.start ∷ places_of q its) (places_of q its)

-- the places of an energy: its registers in the byte block and in the words, its wrap, its Low and its High
abbrev pub energy_places : ℕ → List (List ℕ)
energy_places e =
    places_of (quantity energy_count e) directory ∷
    places_of (quantity wrap e) directory ∷
    places_of (quantity low e) directory ∷
    places_of (quantity high e) directory ∷
    []

-- how many of some items pass a test
unfoldable pub count_of : (Item → Bool) → List Item → ℕ
count_of test [] = 0
count_of test (it ∷ its) = cond (test it) (suc (count_of test its)) (count_of test its)

-- the registers of the four energies among some items
abbrev pub registers_in : List Item → List (List ℕ)
registers_in its = map (λ (e : ℕ). places_of (quantity energy_count e) its) (pos_ea ∷ pos_er ∷ neg_ea ∷ neg_er ∷ [])

-- STATEMENT: a tenant sees 83 of the items (request 3), 46 of the byte block and 37 words, the last of them at 0x37a and 0x103d, and
-- both registers of each energy; none of them shows a setup word, a wrap, an exact half or the identifier 0x1114
pub record TenantView : Type 0 where
  pub count : length (tenant_of own).seen ≡ 83
  pub bytes : count_of in_bytes (tenant_of own).seen ≡ 46
  pub last_byte : (get_or (tenant_of own).seen 45 none).start ≡ 0x37a
  pub last_word : (get_or (tenant_of own).seen 82 none).start ≡ 0x103d
  pub registers : registers_in (tenant_of own).seen ≡ registers_in directory
  pub hidden : T (hides own)

-- STATEMENT: one energy stands in three tables
pub record ThreeTables : Type 0 where
  pub at_pos_ea : energy_places pos_ea ≡ (0x325 ∷ 0x101c ∷ []) ∷ (0x1540 ∷ []) ∷ (0x1500 ∷ []) ∷ (0x1502 ∷ []) ∷ []
  pub at_pos_er : energy_places pos_er ≡ (0x343 ∷ 0x101e ∷ []) ∷ (0x1541 ∷ []) ∷ (0x1504 ∷ []) ∷ (0x1506 ∷ []) ∷ []
  pub at_neg_ea : energy_places neg_ea ≡ (0x335 ∷ 0x1020 ∷ []) ∷ (0x1542 ∷ []) ∷ (0x1508 ∷ []) ∷ (0x150a ∷ []) ∷ []
  pub at_neg_er : energy_places neg_er ≡ (0x348 ∷ 0x1022 ∷ []) ∷ (0x1543 ∷ []) ∷ (0x150c ∷ []) ∷ (0x150e ∷ []) ∷ []

-- STATEMENT: average, peak and minutes stand in the byte block and in the words (request 1)
pub record AveragePlaces : Type 0 where
  pub at_average : places_of (quantity power average) directory ≡ 0x350 ∷ 0x1027 ∷ []
  pub at_peak : places_of (quantity power peak) directory ≡ 0x354 ∷ 0x1029 ∷ []
  pub at_minutes : places_of (quantity plain minutes) directory ≡ 0x358 ∷ 0x102b ∷ []
