-- The computed tests as rules at each item: of two items the later starts where the earlier ends, or after; and each
-- sends one word or two. A test of each item is one of each item of a run.
use mathlib.Core.Path.{◌≡◌, refl}
use mathlib.Core.Bool.{Bool, true, false, ◌&&◌, and-eq-true_iff}
use mathlib.Core.List.{List, [], ◌∷◌}
use Prim.Native.Nat.{ℕ, zero, suc, ◌≤◌, ◌<◌}
use native.Mathlib.Omega.{arith}
use lib.Dec.{T, leb, ltb, leb→le, ltb→lt}
use lib.ListN.{length, get_or, take, drop}
use borrow.Author.Tests.{leb-true}
use Rattle.directory.specs.declared.Item.{Item}
use Rattle.directory.specs.Item.{none, ends}
use Rattle.directory.specs.Order.{ascends, every, narrow, ruled}
use Rattle.directory.specs.Run.{run_items}

-- a test of two parts
pub left : (a b : Bool) → T (a && b) → T a
left true b t = tt
left false b t = t

pub right : (a b : Bool) → T (a && b) → T b
right true b t = t
right false b t = absurd t

pub both : (a b : Bool) → T a → T b → T (a && b)
both true b s t = t
both false b s t = absurd s

-- ascending, without overlap, as the laws use it
pub data Ascends : ℕ → List Item → Type 0 where
  done : {from : ℕ} → Ascends from []
  next : {from : ℕ} {it : Item} {its : List Item} → from ≤ it.start → 0 < it.fills → Ascends (ends it) its → Ascends from (it ∷ its)

ascending : (from : ℕ) (its : List Item) → T (ascends from its) → Ascends from its
unfolding ascends
ascending from [] t = done
ascending from (it ∷ its) t =
    let u = right (leb from it.start) _ t in
    next (leb→le _ _ (left (leb from it.start) _ t)) (ltb→lt _ _ (left (ltb 0 it.fills) _ u)) (ascending (ends it) its (right (ltb 0 it.fills) _ u))

-- each item starts at `from` or after
pub all_from : {from : ℕ} {its : List Item} → Ascends from its → (k : ℕ) → k < length its → from ≤ (get_or its k none).start
all_from done k h = omega arith
all_from (next l f a) zero h = l
all_from (next l f a) (suc k) h = omega (arith, all_from a k (omega arith))

-- THE RULE
pub apart : {from : ℕ} {its : List Item} → Ascends from its → (i j : ℕ) → i < j → j < length its → ends (get_or its i none) ≤ (get_or its j none).start
apart done i j h k = omega arith
apart (next l f a) i zero h k = omega arith
apart (next l f a) zero (suc j) h k = all_from a j (omega arith)
apart (next l f a) (suc i) (suc j) h k = apart a i j (omega arith) (omega arith)

holds : (b : Bool) → T b → b ≡ true
holds true t = refl
holds false t = absurd t

-- a test of each item, at one of them
pub every_at : (test : Item → Bool) (its : List Item) → T (every test its) → (k : ℕ) → k < length its → test (get_or its k none) ≡ true
unfolding every
every_at test [] t k h = let z : ⊥ = omega arith in absurd z
every_at test (it ∷ its) t zero h = holds (test it) (left (test it) _ t)
every_at test (it ∷ its) t (suc k) h = every_at test its (right (test it) _ t) k (omega arith)

pub every_take : (test : Item → Bool) (its : List Item) (n : ℕ) → T (every test its) → T (every test (take n its))
unfolding every
every_take test its zero h = tt
every_take test [] (suc n) h = tt
every_take test (it ∷ its) (suc n) h = both (test it) _ (left (test it) _ h) (every_take test its n (right (test it) _ h))

every_drop : (test : Item → Bool) (its : List Item) (n : ℕ) → T (every test its) → T (every test (drop n its))
unfolding every
every_drop test its zero h = h
every_drop test [] (suc n) h = tt
every_drop test (it ∷ its) (suc n) h = every_drop test its n (right (test it) _ h)

pub every_run : (test : Item → Bool) (its : List Item) (first count : ℕ) → T (every test its) → T (every test (run_items its first count))
every_run test its first count h = every_take test (drop first its) count (every_drop test its first h)

-- one word or two
pub record Narrow (it : Item) : Type 0 where
  pub some : 1 ≤ it.words
  pub few : it.words ≤ 2

-- the two rules of a directory
pub ruled_ascends : (its : List Item) → T (ruled its) → Ascends 0 its
ruled_ascends its t = ascending 0 its (left (ascends 0 its) _ t)

pub ruled_every : (its : List Item) → T (ruled its) → T (every narrow its)
ruled_every its = right (ascends 0 its) _

pub every_narrow : (its : List Item) → T (every narrow its) → (k : ℕ) → k < length its → Narrow (get_or its k none)
every_narrow its t k h =
    let a = (and-eq-true_iff (leb 1 (get_or its k none).words) _).0 (every_at narrow its t k h) in
    record { some = leb-true _ _ a.0; few = leb-true _ _ a.1 }

pub ruled_narrow : (its : List Item) → T (ruled its) → (k : ℕ) → k < length its → Narrow (get_or its k none)
ruled_narrow its t = every_narrow its (ruled_every its t)
