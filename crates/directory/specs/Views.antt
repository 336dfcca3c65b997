-- Paper 01, "What the meter does with a frame", step 4: what a read is judged by, a directory and the most words that it may ask for. What
-- is said of reads is said of every view that passes the tests; paper 01's own (the crate `own`) enters by them.
use Rattle.std.specs.Prelude.{ℕ, ◌+◌, ◌*◌, ◌≤◌, Bool, ◌&&◌, List, T, leb, length, take}
use Rattle.directory.specs.declared.Item.{Item}
use Rattle.directory.specs.Item.{items}
use Rattle.directory.specs.Order.{every, shaped, meant, tested}

-- the directory that is seen, and the most words of a read
pub record View : Type 0 where
  pub seen : List Item
  pub most : ℕ

-- its tests: those of a directory; an L may be asked for; and a reply of the most words, with its head and CRC, has room in a frame
abbrev pub passes : View → Bool
passes v = tested v.seen && (leb 2 v.most && leb (5 + 2 * v.most) 256)

-- the view that a flat table gives, of which the first items may be read
abbrev pub view_of : List ℕ → ℕ → ℕ → View
view_of t seen most = record { seen = take seen (items t); most = most }

-- what is true of the table of a directory: it holds the items that may be read, and these pass the tests
pub record Lent (t : List ℕ) (seen most : ℕ) : Type 0 where
  pub holds : 4 * seen ≤ length t
  pub good : T (passes (view_of t seen most))

-- what is true of the items that are asked for: each is one of a directory that passes the tests
pub record Asked (its : List Item) : Type 0 where
  pub shapely : T (every shaped its)
  pub means : T (every meant its)
