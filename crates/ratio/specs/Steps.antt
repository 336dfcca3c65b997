-- Paper 01, "Steps of the registers", Energies: the table of T and the energy step, row by row as it is printed (paper 02, request 6); its
-- last row is that of request 2. T is in tenths: the printed "10 ≤ KTA*KTV < 100" is the row from 100 to 999.
use Rattle.std.specs.Prelude.{◌≡◌, List, [], ◌∷◌, ℕ, suc, ◌≤◌, ◌<◌, Bool, true, false, ◌&&◌, cond, leb, ltb, eqb, get_or}

-- ---- the table

-- which T a row is for, in the paper's words
pub data Range : Type 0 where
  below : ℕ → Range
  ◌to◌ : ℕ → ℕ → Range
  up_from : ℕ → Range

infix 60 ◌to◌
-- below 100: not 100 itself; 100 to 999: both; from 1,000,000 up: that too
abbrev pub has : Range → ℕ → Bool
has (below end) t = ltb t end
has (first to last) t = leb first t && leb t last
has (up_from first) t = leb first t

-- a row: its T, and their energy step, Wh
pub data Row : Type 0 where
  row : Range → ℕ → Row

-- the table
abbrev pub steps : List Row
steps =
    row (below 100) 10 ∷
    row (100 to 999) 100 ∷
    row (1000 to 9999) 1000 ∷
    row (10000 to 99999) 10000 ∷
    row (100000 to 999999) 100000 ∷
    row (up_from 1000000) 1000000 ∷
    []

-- the energy step of T in a table: that of the first row which has it; 0 if none does
unfoldable pub step_in : List Row → ℕ → ℕ
step_in [] t = 0
step_in (row range step ∷ rows) t = cond (has range t) step (step_in rows t)

-- the energy step of T, Wh
unfoldable pub step_of : ℕ → ℕ
unfolding step_in
step_of = step_in steps

-- ---- what makes it total

-- rows meet without gap or overlap: the first starts at a given T, each other right after the one before; a row open below starts at 0, and
-- the last row, no other, is open above
unfoldable pub meet : ℕ → List Row → Bool
meet start [] = false
meet start (row (below end) step ∷ rows) = eqb start 0 && meet end rows
meet start (row (first to last) step ∷ rows) = eqb start first && (leb first last && meet (suc last) rows)
meet start (row (up_from first) step ∷ []) = eqb start first
meet start (row (up_from first) step ∷ another ∷ rows) = false

-- the row at a place of a table; past its end, one that no T is in
abbrev pub row_at : List Row → ℕ → Row
row_at rows place = get_or rows place (row (below 0) 0)

-- T is in a row
abbrev pub in_row : Row → ℕ → Bool
in_row (row range step) t = has range t

-- the step of a row
abbrev pub row_step : Row → ℕ
row_step (row range step) = step

-- T is in one row and no other, and has the step that stands there
pub record InOneRow (rows : List Row) (t : ℕ) : Type 0 where
  pub place : ℕ
  pub its : in_row (row_at rows place) t ≡ true
  pub no_other : (k : ℕ) → in_row (row_at rows k) t ≡ true → k ≡ place
  pub step : step_in rows t ≡ row_step (row_at rows place)

-- STATEMENT: the rows of the table meet, by one computed test; and in any table whose rows meet every T is in one row
pub record RowsMeet : Type 0 where
  pub own : meet 0 steps ≡ true
  pub one_row : (rows : List Row) → meet 0 rows ≡ true → (t : ℕ) → InOneRow rows t

-- STATEMENT: the table, row by row: the step of every T in the row
pub record StepRows : Type 0 where
  pub row_10 : (t : ℕ) → t < 100 → step_of t ≡ 10
  pub row_100 : (t : ℕ) → 100 ≤ t → t < 1000 → step_of t ≡ 100
  pub row_1000 : (t : ℕ) → 1000 ≤ t → t < 10000 → step_of t ≡ 1000
  pub row_10000 : (t : ℕ) → 10000 ≤ t → t < 100000 → step_of t ≡ 10000
  pub row_100000 : (t : ℕ) → 100000 ≤ t → t < 1000000 → step_of t ≡ 100000
  -- request 2: from T = 1,000,000 up, the step is 1,000,000 Wh
  pub row_1000000 : (t : ℕ) → 1000000 ≤ t → step_of t ≡ 1000000
