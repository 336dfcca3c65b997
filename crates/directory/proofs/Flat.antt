-- A flat table as items: dropping four numbers drops an item, so the item of index i stands at 4 × i, and a part of the table holds a run.
use mathlib.Core.Path.{◌≡◌, refl, sym, ap, ◌∙◌}
use mathlib.Core.List.{List, [], ◌∷◌}
use Prim.Native.Nat.{ℕ, zero, suc, ◌+◌, ◌*◌, ◌/◌, ◌≤◌, ◌<◌}
use native.Mathlib.Nat.{add-zero}
use native.Mathlib.Omega.{arith}
use lib.ListN.{length, get_or, take, drop, length-drop}
use lib.Seq.{drop-cons, get_or-drop}
use Rattle.directory.specs.declared.Item.{Item}
use Rattle.directory.specs.Item.{item, items, none}

drop_step : (l : List ℕ) (n m : ℕ) → n < length l → suc n ≡ m → drop n l ≡ get_or l n 0 ∷ drop m l
drop_step l n m h e = drop-cons l n 0 h ∙ ap (λ (k : ℕ). get_or l n 0 ∷ drop k l) e

drop_four : (l : List ℕ) (at : ℕ) → at + 4 ≤ length l → drop at l ≡ get_or l at 0 ∷ get_or l (at + 1) 0 ∷ get_or l (at + 2) 0 ∷ get_or l (at + 3) 0 ∷ drop (at + 4) l
drop_four l at h =
    cc
    (drop_step l at (at + 1) (omega arith) (omega arith), drop_step l (at + 1) (at + 2) (omega arith) (omega arith), drop_step l (at + 2) (at + 3) (omega arith) (omega arith), drop_step l (at + 3) (at + 4) (omega arith) (omega arith))

items_skip : (l : List ℕ) (i : ℕ) → 4 * i ≤ length l → drop i (items l) ≡ items (drop (4 * i) l)
unfolding items
items_skip l zero h = refl
items_skip (a ∷ f ∷ w ∷ q ∷ l) (suc i) h =
    let e : 4 * suc i ≡ suc (suc (suc (suc (4 * i)))) = omega arith in
    rw e (items_skip l i (omega arith))
items_skip (a ∷ f ∷ w ∷ []) (suc i) h = let z : ⊥ = omega arith in absurd z
items_skip (a ∷ f ∷ []) (suc i) h = let z : ⊥ = omega arith in absurd z
items_skip (a ∷ []) (suc i) h = let z : ⊥ = omega arith in absurd z
items_skip [] (suc i) h = let z : ⊥ = omega arith in absurd z

items_front : (l : List ℕ) (i : ℕ) → 4 * i ≤ length l → items (take (4 * i) l) ≡ take i (items l)
unfolding items
items_front l zero h = refl
items_front (a ∷ f ∷ w ∷ q ∷ l) (suc i) h =
    let e : 4 * suc i ≡ suc (suc (suc (suc (4 * i)))) = omega arith in
    rw e (ap (λ (its : List Item). item a f w q ∷ its) (items_front l i (omega arith)))
items_front (a ∷ f ∷ w ∷ []) (suc i) h = let z : ⊥ = omega arith in absurd z
items_front (a ∷ f ∷ []) (suc i) h = let z : ⊥ = omega arith in absurd z
items_front (a ∷ []) (suc i) h = let z : ⊥ = omega arith in absurd z
items_front [] (suc i) h = let z : ⊥ = omega arith in absurd z

-- four numbers an item, from 4 × first on
pub items_part : (l : List ℕ) (first count : ℕ) → 4 * (first + count) ≤ length l → items (take (4 * count) (drop (4 * first) l)) ≡ take count (drop first (items l))
items_part l first count h =
    items_front (drop (4 * first) l) count (omega (arith, h, length-drop (4 * first) l)) ∙ ap (take count) (sym (items_skip l first (omega (arith, h))))

-- the item of index i, number by number
pub item_of : (l : List ℕ) (i : ℕ) → 4 * i + 4 ≤ length l → get_or (items l) i none ≡ item (get_or l (4 * i) 0) (get_or l (4 * i + 1) 0) (get_or l (4 * i + 2) 0) (get_or l (4 * i + 3) 0)
unfolding items
item_of l i h =
    let front : get_or (drop i (items l)) 0 none ≡ get_or (items l) i none = rw get_or-drop (ap (λ (k : ℕ). get_or (items l) k none) (add-zero i)) in
    sym front ∙ ap (λ (its : List Item). get_or its 0 none) (items_skip l i (omega arith) ∙ ap items (drop_four l (4 * i) h))

-- items laid out flat, as a constant table has them
unfoldable pub flat : List Item → List ℕ
flat [] = []
flat (it ∷ its) = it.start ∷ it.fills ∷ it.words ∷ it.quantity ∷ flat its

pub items_flat : (its : List Item) → items (flat its) ≡ its
unfolding items flat
items_flat [] = refl
items_flat (it ∷ its) = ap (λ (rest : List Item). it ∷ rest) (items_flat its)

-- four numbers make an item
pub items_length : (l : List ℕ) → length (items l) ≡ length l / 4
unfolding items
items_length (a ∷ f ∷ w ∷ q ∷ l) = omega (arith, items_length l)
items_length (a ∷ f ∷ w ∷ []) = refl
items_length (a ∷ f ∷ []) = refl
items_length (a ∷ []) = refl
items_length [] = refl
