-- The first n items of a table are as many as asked, and item by item the table's own; what passes the tests, test by test; and a run of
-- the items that are seen stands in a part of the table.
use mathlib.Core.Path.{◌≡◌, refl, sym, ◌∙◌}
use mathlib.Core.List.{List, [], ◌∷◌}
use Prim.Native.Nat.{ℕ, zero, suc, ◌+◌, ◌*◌, ◌≤◌, ◌<◌}
use native.Mathlib.Omega.{arith}
use lib.Dec.{T, leb, leb→le}
use lib.ListN.{length, get_or, take, drop}
use lib.Seq.{length-take-le, get_or-take, take-take}
use Rattle.directory.specs.declared.Item.{Item}
use Rattle.directory.specs.Item.{items, none}
use Rattle.directory.specs.Order.{every, narrow, ruled, shaped, meant, tested}
use Rattle.directory.specs.Run.{run_items}
use Rattle.directory.specs.Views.{View, passes, view_of, Lent, Asked}
use Rattle.directory.proofs.Flat.{items_length, items_part}
use Rattle.directory.proofs.Order.{left, right, every_run, ruled_every}

-- ---- a table, as far as it is seen

module _ (t : List ℕ) (n : ℕ) (size : 4 * n ≤ length t) where
  pub view_length : length (take n (items t)) ≡ n
  view_length = length-take-le n (items t) (omega (arith, size, items_length t))

  pub view_item : (i : ℕ) {it : Item} → i < n → it ≡ get_or (items t) i none → get_or (take n (items t)) i none ≡ it
  view_item i h e = get_or-take n (items t) i none h ∙ sym e

-- ---- the tests, one by one

pub tested_ruled : (dir : List Item) → T (tested dir) → T (ruled dir)
tested_ruled dir = left (ruled dir) _

pub tested_shaped : (dir : List Item) → T (tested dir) → T (every shaped dir)
tested_shaped dir h = left (every shaped dir) _ (right (ruled dir) _ h)

pub tested_meant : (dir : List Item) → T (tested dir) → T (every meant dir)
tested_meant dir h = right (every shaped dir) _ (right (ruled dir) _ h)

module _ (v : View) (h : T (passes v)) where
  pub passes_tested : T (tested v.seen)
  passes_tested = left (tested v.seen) _ h

  pub passes_ruled : T (ruled v.seen)
  passes_ruled = tested_ruled v.seen passes_tested

  -- an L may be asked for
  pub passes_long : 2 ≤ v.most
  passes_long = leb→le _ _ (left (leb 2 v.most) _ (right (tested v.seen) _ h))

  -- a reply of the most words has room in a frame
  pub passes_room : 5 + 2 * v.most ≤ 256
  passes_room = leb→le _ _ (right (leb 2 v.most) _ (right (tested v.seen) _ h))

-- ---- a table that is lent, and a run of it

-- a view's items are as many as are seen of the table
pub seen_length : (t : List ℕ) (seen most : ℕ) → Lent t seen most → seen ≡ length (view_of t seen most).seen
seen_length t seen most lent = sym (view_length t seen lent.holds)

pub seen_run : (its : List Item) (n first count : ℕ) → first + count ≤ n → run_items (take n its) first count ≡ run_items its first count
seen_run its n zero count h = take-take count n its (omega (arith, h))
seen_run its zero (suc first) count h = absurd (omega (arith, h))
seen_run [] (suc n) (suc first) count h = refl
seen_run (it ∷ its) (suc n) (suc first) count h = seen_run its n first count (omega (arith, h))

module _ (t : List ℕ) (seen most : ℕ) (lent : Lent t seen most) (first count : ℕ) (inside : first + count ≤ length (view_of t seen most).seen) where
  pub run_room : 4 * (first + count) ≤ length t
  run_room = omega (arith, inside, view_length t seen lent.holds, lent.holds)

  pub run_part : items (take (4 * count) (drop (4 * first) t)) ≡ run_items (view_of t seen most).seen first count
  run_part = items_part t first count run_room ∙ sym (seen_run (items t) seen first count (omega (arith, inside, view_length t seen lent.holds)))

  pub run_asked : Asked (items (take (4 * count) (drop (4 * first) t)))
  run_asked =
      let good = passes_tested (view_of t seen most) lent.good in
      rw run_part (record { shapely = every_run shaped (view_of t seen most).seen first count (tested_shaped (view_of t seen most).seen good); means = every_run meant (view_of t seen most).seen first count (tested_meant (view_of t seen most).seen good) })

  pub run_narrow : T (every narrow (items (take (4 * count) (drop (4 * first) t))))
  run_narrow = rw run_part (every_run narrow (view_of t seen most).seen first count (ruled_every (view_of t seen most).seen (passes_ruled (view_of t seen most) lent.good)))
