-- Finding in an ascending directory: the item that starts at an address is found at its own index, items that start
-- below need not be looked at, and from one that starts above on there is none.
use mathlib.Core.Path.{◌≡◌, refl, ap, ◌∙◌}
use mathlib.Core.Bool.{Bool, true, false}
use mathlib.Core.List.{List, [], ◌∷◌}
use Prim.Native.Nat.{ℕ, zero, suc, ◌+◌, ◌≤◌, ◌<◌}
use native.Mathlib.Nat.{add-zero, zero-add}
use native.Mathlib.Numerals.{add-one}
use native.Mathlib.Omega.{arith}
use lib.Dec.{eqb}
use lib.ListN.{length, get_or, drop}
use lib.Seq.{drop-nil}
use borrow.Author.Tests.{eq-eqb, ne_eqb, eqb-true}
use Rattle.std.specs.Prelude.{Some, None}
use Rattle.directory.specs.declared.Item.{Item}
use Rattle.directory.specs.Item.{none}
use Rattle.directory.specs.Run.{find_in}
use Rattle.directory.proofs.Order.{Ascends, done, next, all_from}

-- an item is found by its start, at its own index
pub found_at : {from : ℕ} {its : List Item} → Ascends from its → (i k : ℕ) → k < length its → find_in its (get_or its k none).start i ≡ Some (i + k)
unfolding find_in
found_at done i k h = let z : ⊥ = omega arith in absurd z
found_at (next {it = it} l f a) i zero h = simp (eq-eqb it.start it.start refl, add-zero)
found_at (next {it = it} {its = its} l f a) i (suc k) h =
    simp (ne_eqb it.start (get_or its k none).start (λ e. omega (arith, all_from a k (omega arith))))
    (found_at a (i + 1) k (omega arith) ∙ ap Some (omega arith))

-- what is found starts there
pub record Is (its : List Item) (address i k : ℕ) : Type 0 where
  pub index : ℕ
  pub at : i + index ≡ k
  pub inside : index < length its
  pub starts : (get_or its index none).start ≡ address

pub found_is : (its : List Item) (address i k : ℕ) → find_in its address i ≡ Some k → Is its address i k
unfolding find_in
found_is [] address i k e = let z : ◌≡◌ {A = ℕ} 0 1 = cc in let y : ⊥ = omega arith in absurd y
found_is (it ∷ its) address i k e = by_test (eqb it.start address) refl (found_is its address (i + 1) k)
  where
    by_test : (b : Bool) → eqb it.start address ≡ b → (find_in its address (i + 1) ≡ Some k → Is its address (i + 1) k) → Is (it ∷ its) address i k
    by_test true t later =
        let h : Some i ≡ Some k = simp t at e in
        let z : i ≡ k = cc in
        record { index = 0; at = omega arith; inside = omega arith; starts = eqb-true _ _ t }
    by_test false t later =
        let r = later (simp t at e) in
        record { index = suc r.index; at = omega (arith, r.at); inside = omega (arith, r.inside); starts = r.starts }

pub found_inside : (its : List Item) (address k : ℕ) → find_in its address 0 ≡ Some k → k < length its
found_inside its address k e = let r = found_is its address 0 k e in omega (arith, r.at, r.inside)

pub found_starts : (its : List Item) (address k : ℕ) → find_in its address 0 ≡ Some k → (get_or its k none).start ≡ address
found_starts its address k e =
    let r = found_is its address 0 k e in
    let i : r.index ≡ k = omega (arith, r.at) in
    rw i at r.starts

-- nothing is found below the first
pub none_below : {from : ℕ} {its : List Item} → Ascends from its → (x i : ℕ) → x < from → find_in its x i ≡ None
unfolding find_in
none_below done x i h = refl
none_below (next {it = it} l f a) x i h = simp (ne_eqb it.start x (λ e. omega arith)) (none_below a x (i + 1) (omega arith))

-- items up to one that starts below need not be looked at
pub skip_below : {from : ℕ} {its : List Item} → Ascends from its → (x i k : ℕ) → k < length its → (get_or its k none).start < x → find_in its x i ≡ find_in (drop (suc k) its) x (i + suc k)
unfolding find_in
skip_below done x i k h b = let z : ⊥ = omega arith in absurd z
skip_below (next {it = it} {its = its} l f a) x i zero h b = simp (ne_eqb it.start x (λ e. omega arith))
skip_below (next {it = it} {its = its} l f a) x i (suc k) h b =
    simp (ne_eqb it.start x (λ e. omega (arith, all_from a k (omega arith))))
    (skip_below a x (i + 1) k (omega arith) b ∙ ap (λ (j : ℕ). find_in (drop (suc k) its) x j) (omega arith))

-- the same of a whole directory
module _ {its : List Item} (asc : Ascends 0 its) (x k : ℕ) (h : k < length its) where
  pub found_here : (get_or its k none).start ≡ x → find_in its x 0 ≡ Some k
  found_here e = rw (← e) (found_at asc 0 k h ∙ ap Some (zero-add k))

  pub skipped : (get_or its k none).start < x → find_in its x 0 ≡ find_in (drop (k + 1) its) x (k + 1)
  skipped b = rw add-one (skip_below asc x 0 k h b ∙ ap (find_in (drop (suc k) its) x) (zero-add (suc k)))

-- from an item that starts above on, or from the end, nothing is found
pub none_from : {from : ℕ} {its : List Item} → Ascends from its → (x i k : ℕ) → (k < length its → x < (get_or its k none).start) → find_in (drop k its) x i ≡ None
unfolding find_in
none_from done x i k b = rw (drop-nil k) refl
none_from (next {it = it} l f a) x i zero b =
    simp (ne_eqb it.start x (λ e. omega (arith, b (omega arith)))) (none_below a x (i + 1) (omega (arith, b (omega arith))))
none_from (next l f a) x i (suc k) b = none_from a x i k (λ h. b (omega arith))

-- the search by halving: every item before `low` starts below the address, every one from `high` on above it
pub record Window (its : List Item) (x low high : ℕ) : Type 0 where
  pub order : low ≤ high
  pub inside : high ≤ length its
  pub below : find_in its x 0 ≡ find_in (drop low its) x low
  pub above : high < length its → x < (get_or its high none).start

pub window_whole : (its : List Item) (x n : ℕ) → length its ≡ n → Window its x 0 n
window_whole its x n e = record { order = omega arith; inside = omega arith; below = refl; above = λ h. omega arith }

module _ {its : List Item} {x low high : ℕ} (asc : Ascends 0 its) (w : Window its x low high) where
  pub window_up : (k : ℕ) → k < high → (get_or its k none).start < x → Window its x (k + 1) high
  window_up k h b = record {
    order = omega arith;
    inside = w.inside;
    below = skipped asc x k (omega (arith, w.inside)) b;
    above = w.above;
  }

  pub window_down : (k : ℕ) → low ≤ k → k < high → x < (get_or its k none).start → Window its x low k
  window_down k l h b = record { order = l; inside = omega (arith, w.inside); below = w.below; above = λ _. b }

  pub window_empty : high ≤ low → find_in its x 0 ≡ None
  window_empty h =
      let e : high ≡ low = omega (arith, w.order) in
      w.below ∙ none_from asc x low low (rw e at w.above)
