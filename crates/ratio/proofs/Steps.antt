-- The table of the energy step: where the rows of a table meet, every T is in exactly one; the step of each row of paper 01's, and that none
-- is below 10 Wh or above 1,000,000. What callers know of a step are these laws and no more.
use mathlib.Core.Path.{◌≡◌, refl, sym, ap, ◌∙◌}
use mathlib.Core.List.{List, [], ◌∷◌}
use Prim.Native.Nat.{ℕ, zero, suc, ◌≤◌, ◌<◌}
use mathlib.Core.Bool.{Bool, true, false, ◌&&◌, and-eq-true_iff, false≢true}
use native.Mathlib.Omega.{arith}
use borrow.Author.Tests.{ltb-true, ltb-false, leb-true, eqb-true, lt-ltb, le-leb}
use lib.Dec.{ltb, leb, eqb, leb-suc-suc}
use Rattle.ratio.specs.Steps.{Row, row, below, ◌to◌, up_from, steps, step_in, meet, row_at, in_row, row_step, InOneRow, RowsMeet, step_of, StepRows}

-- ---- tables whose rows meet

-- no row has a T before the start
not_before : (start : ℕ) (rows : List Row) → meet start rows ≡ true → (k t : ℕ) → in_row (row_at rows k) t ≡ true → start ≤ t
unfolding meet
not_before start [] ok k t h = absurd (false≢true ok)
not_before start (row (below end) step ∷ rows) ok k t h = omega (arith, eqb-true start 0 ((and-eq-true_iff (eqb start 0) _).0 ok).0)
not_before start (row (first to last) step ∷ rows) ok zero t h =
    omega (arith, eqb-true start first ((and-eq-true_iff (eqb start first) _).0 ok).0, leb-true first t ((and-eq-true_iff (leb first t) _).0 h).0)
not_before start (row (first to last) step ∷ rows) ok (suc k) t h =
    let starts = (and-eq-true_iff (eqb start first) _).0 ok in
    let rest = (and-eq-true_iff (leb first last) _).0 starts.1 in
    omega (arith, eqb-true start first starts.0, leb-true first last rest.0, not_before (suc last) rows rest.1 k t h)
not_before start (row (up_from first) step ∷ []) ok zero t h = omega (arith, eqb-true start first ok, leb-true first t h)
not_before start (row (up_from first) step ∷ []) ok (suc k) t h = omega (arith, ltb-true t 0 h)
not_before start (row (up_from first) step ∷ another ∷ rows) ok k t h = absurd (false≢true ok)

-- T is in the first row, and in no later one
here : (r : Row) (rows : List Row) (t : ℕ) → in_row r t ≡ true → ((k : ℕ) → in_row (row_at rows k) t ≡ true → ⊥) → InOneRow (r ∷ rows) t
unfolding step_in
here (row range step) rows t h none = record { place = 0; its = h; no_other = no_other; step = rw h refl }
  where
    no_other : (k : ℕ) → in_row (row_at (row range step ∷ rows) k) t ≡ true → k ≡ 0
    no_other zero h = refl
    no_other (suc k) h = absurd (none k h)

-- T is in a later row
there : (r : Row) (rows : List Row) (t : ℕ) → in_row r t ≡ false → InOneRow rows t → InOneRow (r ∷ rows) t
unfolding step_in
there (row range step) rows t h o = record { place = suc o.place; its = o.its; no_other = no_other; step = rw h o.step }
  where
    no_other : (k : ℕ) → in_row (row_at (row range step ∷ rows) k) t ≡ true → k ≡ suc o.place
    no_other zero g = absurd (false≢true (sym h ∙ g))
    no_other (suc k) g = ap suc (o.no_other k g)

-- a row that ends before `next`, and rows that meet from there on
either :
    (r : Row) (rows : List Row) (t next : ℕ) → meet next rows ≡ true → in_row r t ≡ ltb t next → (next ≤ t → InOneRow rows t) → InOneRow (r ∷ rows) t
either r rows t next ok same later = by (ltb t next) refl
  where
    by : (b : Bool) → ltb t next ≡ b → InOneRow (r ∷ rows) t
    by true e = here r rows t (same ∙ e) (λ k h. omega (arith, ltb-true t next e, not_before next rows ok k t h))
    by false e = there r rows t (same ∙ e) (later (ltb-false t next e))

-- THE LAW, of any table
one_row : (start : ℕ) (rows : List Row) → meet start rows ≡ true → (t : ℕ) → start ≤ t → InOneRow rows t
unfolding meet
one_row start [] ok t h = absurd (false≢true ok)
one_row start (row (below end) step ∷ rows) ok t h =
    let rest = ((and-eq-true_iff (eqb start 0) _).0 ok).1 in
    either (row (below end) step) rows t end rest refl (one_row end rows rest t)
one_row start (row (first to last) step ∷ rows) ok t h =
    let starts = (and-eq-true_iff (eqb start first) _).0 ok in
    let rest = ((and-eq-true_iff (leb first last) _).0 starts.1).1 in
    let above : leb first t ≡ true = le-leb first t (omega (arith, eqb-true start first starts.0)) in
    either (row (first to last) step) rows t (suc last) rest (ap (λ (b : Bool). b && leb t last) above ∙ sym (leb-suc-suc t last)) (one_row (suc last) rows rest t)
one_row start (row (up_from first) step ∷ []) ok t h =
    here (row (up_from first) step) [] t (le-leb first t (omega (arith, eqb-true start first ok))) (λ k g. omega (arith, ltb-true t 0 g))
one_row start (row (up_from first) step ∷ another ∷ rows) ok t h = absurd (false≢true ok)

-- ---- paper 01's table

-- THE TEST
own : meet 0 steps ≡ true
unfolding meet
own = refl

pub rows_meet : RowsMeet
rows_meet = record { own = own; one_row = λ rows ok t. one_row 0 rows ok t (omega arith) }

-- the step of T is that of any row that it is in
of_row : (t k : ℕ) → in_row (row_at steps k) t ≡ true → step_of t ≡ row_step (row_at steps k)
unfolding step_of
of_row t k h = let o = one_row 0 steps own t (omega arith) in o.step ∙ ap (λ (n : ℕ). row_step (row_at steps n)) (sym (o.no_other k h))

-- both ends of a row from one T to another are in it
between : (t first last : ℕ) → first ≤ t → t ≤ last → (leb first t && leb t last) ≡ true
between t first last low high = (and-eq-true_iff (leb first t) (leb t last)).1 (le-leb first t low, le-leb t last high)

-- row by row, as `energy_step` is proved by them
pub row_10 : (t : ℕ) → t < 100 → step_of t ≡ 10
row_10 t top = of_row t 0 (lt-ltb t 100 top)

pub row_100 : (t : ℕ) → 100 ≤ t → t < 1000 → step_of t ≡ 100
row_100 t from top = of_row t 1 (between t 100 999 from (omega (arith, top)))

pub row_1000 : (t : ℕ) → 1000 ≤ t → t < 10000 → step_of t ≡ 1000
row_1000 t from top = of_row t 2 (between t 1000 9999 from (omega (arith, top)))

pub row_10000 : (t : ℕ) → 10000 ≤ t → t < 100000 → step_of t ≡ 10000
row_10000 t from top = of_row t 3 (between t 10000 99999 from (omega (arith, top)))

pub row_100000 : (t : ℕ) → 100000 ≤ t → t < 1000000 → step_of t ≡ 100000
row_100000 t from top = of_row t 4 (between t 100000 999999 from (omega (arith, top)))

pub row_1000000 : (t : ℕ) → 1000000 ≤ t → step_of t ≡ 1000000
row_1000000 t from = of_row t 5 (le-leb 1000000 t from)

pub ruleset rows = (row_10, row_100, row_1000, row_10000, row_100000, row_1000000)

pub step_rows : StepRows
step_rows = record {
  row_10 = row_10;
  row_100 = row_100;
  row_1000 = row_1000;
  row_10000 = row_10000;
  row_100000 = row_100000;
  row_1000000 = row_1000000;
}

-- ---- the bounds of all steps

-- neither below the first nor above the last, by one computed test
bounds : ℕ → Bool
bounds step = leb 10 step && leb step 1000000

bounded : List Row → Bool
bounded [] = true
bounded (row range step ∷ rows) = bounds step && bounded rows

bounded_at : (rows : List Row) → bounded rows ≡ true → (t k : ℕ) → in_row (row_at rows k) t ≡ true → bounds (row_step (row_at rows k)) ≡ true
unfolding bounded
bounded_at [] ok t k h = let z : ⊥ = omega (arith, ltb-true t 0 h) in absurd z
bounded_at (row range step ∷ rows) ok t zero h = ((and-eq-true_iff (bounds step) _).0 ok).0
bounded_at (row range step ∷ rows) ok t (suc k) h = bounded_at rows ((and-eq-true_iff (bounds step) _).0 ok).1 t k h

within : (t : ℕ) → (10 ≤ step_of t) × (step_of t ≤ 1000000)
unfolding step_of bounds bounded
within t =
    let o = one_row 0 steps own t (omega arith) in
    let b = (and-eq-true_iff (leb 10 (step_of t)) _).0 (ap bounds o.step ∙ bounded_at steps refl t o.place o.its) in
    (leb-true 10 (step_of t) b.0, leb-true (step_of t) 1000000 b.1)

-- what callers may know of the step
pub record StepLaws : Type 0 where
  pub least : (t : ℕ) → 10 ≤ step_of t
  pub most : (t : ℕ) → step_of t ≤ 1000000

pub step_laws : StepLaws
step_laws = record { least = λ t. (within t).0; most = λ t. (within t).1 }
