-- A run along an ascending directory. The item that starts where another ends can only be the next of the table, so
-- looking at that one is finding it anew, as the paper's run does at each step.
use mathlib.Core.Path.{◌≡◌, refl, sym, ap, ◌∙◌}
use mathlib.Core.Bool.{Bool, true, false, cond}
use mathlib.Core.List.{List, [], ◌∷◌}
use mathlib.Core.Logic.{◌⊎◌, inl, inr, ⊎_elim}
use Prim.Native.Nat.{ℕ, zero, suc, ◌+◌, ◌-◌, ◌≤◌, ◌<◌}
use native.Mathlib.Numerals.{add-one}
use native.Mathlib.Omega.{arith}
use lib.Dec.{eqb}
use lib.ListN.{length, get_or, drop, drop_of_length-le}
use lib.Seq.{drop-cons}
use borrow.Author.Tests.{eq-eqb, ne_eqb, eqb-false}
use Rattle.std.specs.Prelude.{Option, Some, None, Ok, Err}
use Rattle.refusal.specs.declared.ErrorCode.TheVariants.{Address, Data}
use Rattle.directory.specs.declared.Item.{Item}
use Rattle.directory.specs.Item.{none, ends}
use Rattle.directory.specs.Run.{find_in, run_from, run_in, span}
use Rattle.directory.proofs.Order.{Ascends, done, next, Narrow}
use Rattle.directory.proofs.Finds.{found_inside, found_starts, none_below, skipped}

-- an item fills something, and what is behind it ascends from its end
fills_some : {from : ℕ} {its : List Item} → Ascends from its → (k : ℕ) → k < length its → 0 < (get_or its k none).fills
fills_some done k h = omega arith
fills_some (next l f a) zero h = f
fills_some (next l f a) (suc k) h = fills_some a k (omega arith)

ascends_behind : {from : ℕ} {its : List Item} → Ascends from its → (k : ℕ) → k < length its → Ascends (ends (get_or its k none)) (drop (suc k) its)
ascends_behind done k h = let z : ⊥ = omega arith in absurd z
ascends_behind (next l f a) zero h = a
ascends_behind (next l f a) (suc k) h = ascends_behind a k (omega arith)

one_or_two : (w : ℕ) → 1 ≤ w → w ≤ 2 → (w ≡ 1) ⊎ (w ≡ 2)
one_or_two zero a b = let z : ⊥ = omega arith in absurd z
one_or_two (suc zero) a b = inl refl
one_or_two (suc (suc zero)) a b = inr refl
one_or_two (suc (suc (suc w))) a b = let z : ⊥ = omega arith in absurd z

-- what finding an address comes to where only the first of some items can start there
abbrev here : List Item → ℕ → ℕ → Option ℕ
here [] x i = None
here (it ∷ its) x i = cond (eqb it.start x) (Some i) None

-- finding an address is looking at the item of index i
pub record Stands (its : List Item) (i x : ℕ) : Type 0 where
  pub looks : find_in its x 0 ≡ here (drop i its) x i

-- in items that ascend from an address on, only the first can start there
first_only : {its : List Item} (x i : ℕ) → Ascends x its → find_in its x i ≡ here its x i
unfolding find_in
first_only x i done = refl
first_only x i (next {it = it} l f a) =
    unless (eqb it.start x) (Some i) _ _ (λ n. none_below a x (i + 1) (omega (arith, eqb-false it.start x n)))
  where
    unless : (b : Bool) (u v w : Option ℕ) → (b ≡ false → v ≡ w) → cond b u v ≡ cond b u w
    unless true u v w e = refl
    unless false u v w e = e refl

-- where an item was found, and behind an item
pub stands_first : {its : List Item} (x k : ℕ) → find_in its x 0 ≡ Some k → Stands its k x
stands_first {its} x k f =
    record { looks = f ∙ sym (ap (λ (l : List Item). here l x k) (drop-cons its k none (found_inside its x k f)) ∙ simp (eq-eqb _ _ (found_starts its x k f))) }

pub stands_next : {its : List Item} → Ascends 0 its → (k : ℕ) → k < length its → Stands its (k + 1) (ends (get_or its k none))
stands_next {its} asc k h =
    let x = ends (get_or its k none) in
    record { looks = skipped asc x k h (omega (arith, fills_some asc k h)) ∙ rw add-one (first_only x (suc k) (ascends_behind asc k h)) }

-- what is found there is that item
here_at : (l : List Item) (x i k : ℕ) → here l x i ≡ Some k → k ≡ i
here_at [] x i k e = let z : ◌≡◌ {A = ℕ} 0 1 = cc in let y : ⊥ = omega arith in absurd y
here_at (it ∷ l) x i k e = by (eqb it.start x) e
  where
    by : (b : Bool) → cond b (Some i) None ≡ Some k → k ≡ i
    by true e = cc
    by false e = let z : ◌≡◌ {A = ℕ} 0 1 = cc in let y : ⊥ = omega arith in absurd y

pub stands_here : {its : List Item} {i x k : ℕ} → Stands its i x → find_in its x 0 ≡ Some k → k ≡ i
stands_here {its} {i} {x} {k} s e = here_at (drop i its) x i k (sym s.looks ∙ e)

-- the item of index i starts at the address, or none does
module _ {its : List Item} {i x : ℕ} (s : Stands its i x) where
  pub stands_end : length its ≤ i → find_in its x 0 ≡ None
  stands_end h = s.looks ∙ ap (λ (l : List Item). here l x i) (drop_of_length-le its h)

  pub stands_off : i < length its → ((get_or its i none).start ≡ x → ⊥) → find_in its x 0 ≡ None
  stands_off h n = s.looks ∙ ap (λ (l : List Item). here l x i) (drop-cons its i none h) ∙ simp (ne_eqb _ _ n)

  pub stands_on : i < length its → (get_or its i none).start ≡ x → find_in its x 0 ≡ Some i
  stands_on h e = s.looks ∙ ap (λ (l : List Item). here l x i) (drop-cons its i none h) ∙ simp (eq-eqb _ _ e)

-- the run's first step, by whether an item starts there; and its last, with no word due
pub run_nowhere : (dir : List Item) (start words : ℕ) → find_in dir start 0 ≡ None → run_in dir start words ≡ Err Address
unfolding run_in
run_nowhere dir start words f = simp f

pub run_starts : (dir : List Item) (start words first : ℕ) → find_in dir start 0 ≡ Some first → run_in dir start words ≡ run_from dir first 0 start words
unfolding run_in
run_starts dir start words first f = simp f

pub run_done : (dir : List Item) (first count address : ℕ) → run_from dir first count address 0 ≡ Ok (span first count)
unfolding run_from
run_done dir first count address = refl

-- a turn of the run, by what is found at the address
pub run_gap : (dir : List Item) (first count address due : ℕ) → 0 < due → find_in dir address 0 ≡ None → run_from dir first count address due ≡ Err Address
unfolding run_from
run_gap dir first count address zero d f = let z : ⊥ = omega arith in absurd z
run_gap dir first count address (suc zero) d f = simp f
run_gap dir first count address (suc (suc due)) d f = simp f

module _ (dir : List Item) (first count address k : ℕ) (w : Narrow (get_or dir k none)) (f : find_in dir address 0 ≡ Some k) where
  pub run_half : (due : ℕ) → 0 < due → due < (get_or dir k none).words → run_from dir first count address due ≡ Err Data
  unfolding run_from
  run_half zero d h = let z : ⊥ = omega arith in absurd z
  run_half (suc zero) d h = simp (f, eq-eqb (get_or dir k none).words 2 (omega (arith, w.few)))
  run_half (suc (suc due)) d h = let z : ⊥ = omega (arith, w.few) in absurd z

  pub run_next : (due : ℕ) → 0 < due → (get_or dir k none).words ≤ due → run_from dir first count address due ≡ run_from dir first (count + 1) (ends (get_or dir k none)) (due - (get_or dir k none).words)
  unfolding run_from
  run_next zero d h = let z : ⊥ = omega arith in absurd z
  run_next (suc zero) d h =
      let one : (get_or dir k none).words ≡ 1 = omega (arith, w.some) in
      simp (f, one)
  run_next (suc (suc due)) d h =
      let after_one : suc (suc due) - 1 ≡ suc due = omega arith in
      let after_two : suc (suc due) - 2 ≡ due = omega arith in
      ⊎_elim (λ (one : (get_or dir k none).words ≡ 1). simp (f, one, after_one)) (λ (two : (get_or dir k none).words ≡ 2). simp (f, two, after_two))
      (one_or_two _ w.some w.few)

-- a turn of the loop, at the item of index i where the next item must start
module _ {dir : List Item} {it : Item} {i x : ℕ} (inside : i < length dir) (seen : get_or dir i none ≡ it) (s : Stands dir i x) where
  pub turn_gap : (first count due : ℕ) → 0 < due → (it.start ≡ x → ⊥) → run_from dir first count x due ≡ Err Address
  turn_gap first count due d n = run_gap dir first count x due d (stands_off s inside (rw seen n))

  module _ (w : Narrow (get_or dir i none)) (e : it.start ≡ x) (first due : ℕ) (d : 0 < due) where
    pub turn_half : (count : ℕ) → due < it.words → run_from dir first count x due ≡ Err Data
    turn_half count h = run_half dir first count x i w (stands_on s inside (rw seen e)) due d (rw seen h)

    pub turn_next : first ≤ i → it.words ≤ due → run_from dir first (i - first) x due ≡ run_from dir first (i + 1 - first) (x + it.fills) (due - it.words)
    turn_next l h =
        let passed : i - first + 1 ≡ i + 1 - first = omega arith in
        let on = run_next dir first (i - first) x i w (stands_on s inside (rw seen e)) due d (rw seen h) in
        rw (seen, e, passed) at on

  pub turn_stands : Ascends 0 dir → it.start ≡ x → Stands dir (i + 1) (x + it.fills)
  turn_stands asc e = rw (seen, e) at (stands_next asc i inside)
