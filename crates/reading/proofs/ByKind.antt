-- By kind: what the row says of a value's kind, and what the value reads as.
use mathlib.Core.Path.{◌≡◌, refl, ap}
use mathlib.Core.Bool.{Bool, true, false, ◌&&◌, ◌||◌, not, cond, or-false}
use mathlib.Core.List.{List, [], ◌∷◌}
use Prim.Native.Nat.{ℕ, zero, suc, ◌+◌, ◌/◌, ◌≤◌, ◌<◌, zero-le}
use native.Mathlib.Omega.{arith}
use lib.Dec.{leb, ltb, eqb}
use lib.ListN.{get_or}
use borrow.Author.Tests.{eqb-true, eqb-false}
use Rattle.refusal.specs.declared.Refusal.TheVariants.{ValueImpossible}
use Rattle.words.specs.Signed.{magnitude_in}
use Rattle.ratio.specs.Ratios.{kta_ok, ktv_ok}
use Rattle.ratio.specs.Powers.{power_unit}
use Rattle.ratio.proofs.Powers.{power_laws}
use Rattle.counts.specs.Counting.{top_count, top_low, top_high}
use Rattle.directory.specs.declared.Item.{Item}
use Rattle.directory.specs.Item.{is_b}
use Rattle.directory.specs.Run.{is_l}
use Rattle.directory.proofs.ByKind.{◌also◌}
use Rattle.reading.specs.declared.Quantity.TheVariants.{Plain}
use Rattle.reading.specs.declared.Answer.{Answer}
use Rattle.reading.specs.declared.Answer.TheVariants.{Reading, Refused}
use Rattle.reading.specs.Readings.{one_of, thirteen, unit_of, quantities_of, reading_of}

-- what is shown of each of n numbers from i on is so of every one of them
abbrev pub Each : (ℕ → Type 0) → ℕ → ℕ → Type 0
Each C i zero = Unit
Each C i (suc n) = C i × Each C (suc i) n

each_by : (C : ℕ → Type 0) (i k : ℕ) (t : Bool) → eqb k i ≡ t → C i → ((k ≡ i → ⊥) → C k) → C k
each_by C i k true e here onward = rw (eqb-true k i e) here
each_by C i k false e here onward = onward (eqb-false k i e)

pub each_at : (C : ℕ → Type 0) (i n k : ℕ) → Each C i n → i ≤ k → k < i + n → C k
each_at C i zero k h a b = absurd (omega (arith, a, b))
each_at C i (suc n) k h a b =
    each_by C i k (eqb k i) refl h.0 (λ other. each_at C (suc i) n k h.1 (omega (arith, a, other)) (omega (arith, b)))

-- ---- an item of some value

module _ (t : ℕ) (it : Item) (v : ℕ) where
  abbrev upper : Bool
  upper = is_b it && leb 256 v

  -- what the row says of each kind
  abbrev tests : List Bool
  tests =
      false ∷ false ∷ false ∷ false ∷ false ∷
      ltb top_count v ∷ ltb top_low v ∷ ltb top_high v ∷ false ∷
      cond (is_l it) (ltb 1000 (magnitude_in 2 v)) (ltb 100 (magnitude_in 1 v)) ∷ ltb 1 v ∷ ltb 2 v ∷ false ∷
      not (kta_ok v) ∷ not (ktv_ok v) ∷ not (eqb v 1 || eqb v 2) ∷ false ∷
      []

  -- what a value of a kind reads as
  abbrev pub answer_at : ℕ → Answer
  answer_at k = cond (get_or tests k false) (Refused ValueImpossible) (Reading (get_or (quantities_of t it v) k (Plain v)))

  abbrev Row : ℕ → Type 0
  Row k = it.quantity / 64 ≡ k → thirteen it v ≡ (upper || get_or tests k false)

  -- the row alone, whatever the upper byte
  alone : (x : Bool) → (upper || (x || false)) ≡ (upper || x)
  alone x = ap (λ (b : Bool). upper || b) (or-false x)

  rows : Each Row 0 17
  unfolding thirteen one_of
  rows =
      (λ e. rw e refl) also (λ e. rw e refl) also (λ e. rw e refl) also (λ e. rw e refl) also (λ e. rw e refl) also
      (λ e. rw e (alone _)) also (λ e. rw e (alone _)) also (λ e. rw e (alone _)) also (λ e. rw e refl) also
      (λ e. rw e (alone _)) also (λ e. rw e (alone _)) also (λ e. rw e (alone _)) also (λ e. rw e refl) also
      (λ e. rw e (alone _)) also (λ e. rw e (alone _)) also (λ e. rw e (alone _)) also (λ e. rw e refl) also
      tt

  pub upper_refused : upper ≡ true → reading_of t it v ≡ Refused ValueImpossible
  unfolding reading_of thirteen one_of
  upper_refused h = rw h refl

  pub by_kind : it.quantity / 64 < 17 → upper ≡ false → reading_of t it v ≡ answer_at (it.quantity / 64)
  unfolding reading_of
  by_kind known clear = rw (each_at Row 0 17 (it.quantity / 64) rows zero-le known refl, clear) refl

-- a power's unit is at most 100
pub unit_most : (t which : ℕ) → unit_of t which ≤ 100
unit_most t which = by (eqb which 9)
  where
    by : (b : Bool) → cond b 100 (power_unit t) ≤ 100
    by true = omega arith
    by false = power_laws.most t
