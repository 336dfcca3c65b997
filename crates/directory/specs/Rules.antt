-- Paper 01, "The directory": what is true of every directory that passes the tests.
use Rattle.std.specs.Prelude.{◌≡◌, ℕ, ◌≤◌, ◌<◌, true, List, length, get_or, Some}
use Rattle.directory.specs.declared.Item.{Item}
use Rattle.directory.specs.Item.{none, ends}
use Rattle.directory.specs.Order.{shaped, meant}
use Rattle.directory.specs.Run.{find_in}

-- STATEMENT: of a directory that passes the tests: of two items the later starts where the earlier ends, or after; each has the shape
-- of an L, W or B of its block; each shows a quantity, and has room for it; each is found by its start, and what is found starts there
pub record DirectoryRules (dir : List Item) : Type 0 where
  pub apart : (i j : ℕ) → i < j → j < length dir → ends (get_or dir i none) ≤ (get_or dir j none).start
  pub shapes : (i : ℕ) → i < length dir → shaped (get_or dir i none) ≡ true
  pub meanings : (i : ℕ) → i < length dir → meant (get_or dir i none) ≡ true
  pub found : (i : ℕ) → i < length dir → find_in dir (get_or dir i none).start 0 ≡ Some i
  pub starts : (address i : ℕ) → find_in dir address 0 ≡ Some i → (get_or dir i none).start ≡ address
