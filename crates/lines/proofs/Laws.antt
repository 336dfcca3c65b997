-- A line is taken off three characters a turn: two digits, and the space behind them or the end.
use mathlib.Core.Path.{◌≡◌, refl, ◌∙◌}
use mathlib.Core.Bool.{true, false, ◌&&◌, and-eq-true_iff}
use mathlib.Core.List.{List, [], ◌∷◌}
use Prim.Native.Nat.{ℕ, suc, ◌+◌, ◌*◌, ◌/◌, ◌≤◌, ◌<◌}
use native.Mathlib.Omega.{arith}
use lib.Dec.{eqb}
use lib.ListN.{length, get_or, drop, drop_of_length-le}
use lib.Seq.{drop-cons, drop-drop}
use Rattle.digits.specs.Hex.{pair_ok, byte_of}
use Rattle.lines.specs.Lines.{pairs_ok, bytes_of, line_ok}

pub nothing : (l : List ℕ) → length l ≡ 0 → l ≡ []
nothing l h = drop_of_length-le l {i = 0} (omega arith)

-- the first two of what is left
pub two : (l : List ℕ) (i : ℕ) → i + 2 ≤ length l → drop i l ≡ get_or l i 0 ∷ get_or l (i + 1) 0 ∷ drop (i + 2) l
two l i h =
    let first : suc i ≡ i + 1 = omega arith in
    let second : suc (i + 1) ≡ i + 2 = omega arith in
    rw (drop-cons l i 0 (omega arith), first, drop-cons l (i + 1) 0 (omega arith), second)

pub pairs_line : (line : List ℕ) → pairs_ok line ≡ true → line_ok line ≡ true
pairs_line [] t = refl
pairs_line (c ∷ cs) t = t

-- the test of pairs, by what is left
pub pairs_more : (l : List ℕ) → 3 ≤ length l → pairs_ok l ≡ (pair_ok (get_or l 0 0) (get_or l 1 0) && eqb (get_or l 2 0) 0x20 && pairs_ok (drop 3 l))
unfolding pairs_ok
pairs_more [] h = absurd (omega (arith, h))
pairs_more (c ∷ []) h = absurd (omega (arith, h))
pairs_more (c ∷ d ∷ []) h = absurd (omega (arith, h))
pairs_more (c ∷ d ∷ e ∷ l) h = refl

pub pairs_last : (l : List ℕ) → length l ≡ 2 → pairs_ok l ≡ pair_ok (get_or l 0 0) (get_or l 1 0)
unfolding pairs_ok
pairs_last [] h = absurd (omega (arith, h))
pairs_last (c ∷ []) h = absurd (omega (arith, h))
pairs_last (c ∷ d ∷ []) h = refl
pairs_last (c ∷ d ∷ e ∷ l) h = absurd (omega (arith, h))

pub pairs_short : (l : List ℕ) → length l < 2 → pairs_ok l ≡ false
unfolding pairs_ok
pairs_short [] h = refl
pairs_short (c ∷ []) h = refl
pairs_short (c ∷ d ∷ l) h = absurd (omega (arith, h))

pub bytes_length : (line : List ℕ) → length (bytes_of line) ≡ (length line + 1) / 3
unfolding bytes_of
bytes_length [] = refl
bytes_length (c ∷ []) = refl
bytes_length (upper ∷ lower ∷ []) = refl
bytes_length (upper ∷ lower ∷ space ∷ rest) = omega (arith, bytes_length rest)

-- the first pair, and the line behind it
first_ok : (upper lower : ℕ) (rest : List ℕ) → line_ok (upper ∷ lower ∷ rest) ≡ true → (pair_ok upper lower ≡ true) × (line_ok (drop 1 rest) ≡ true)
unfolding pairs_ok
first_ok upper lower [] t = (t, refl)
first_ok upper lower (space ∷ rest) t =
    let e = (and-eq-true_iff (pair_ok upper lower && eqb space 0x20) (pairs_ok rest)).0 t in
    let p = (and-eq-true_iff (pair_ok upper lower) (eqb space 0x20)).0 e.0 in
    (p.0, pairs_line rest e.1)

first_bytes : (upper lower : ℕ) (rest : List ℕ) → bytes_of (upper ∷ lower ∷ rest) ≡ byte_of upper lower ∷ bytes_of (drop 1 rest)
unfolding bytes_of
first_bytes upper lower [] = refl
first_bytes upper lower (space ∷ rest) = refl

-- the same of the pair of index i
module _ (line : List ℕ) (i : ℕ) (inside : 3 * i + 2 ≤ length line) where
  behind : drop 1 (drop (3 * i + 2) line) ≡ drop (3 * (i + 1)) line
  behind =
      let e : 3 * i + 2 + 1 ≡ 3 * (i + 1) = omega arith in
      drop-drop 1 (3 * i + 2) line ∙ rw e

  pub turn_ok : line_ok (drop (3 * i) line) ≡ true → (pair_ok (get_or line (3 * i) 0) (get_or line (3 * i + 1) 0) ≡ true) × (line_ok (drop (3 * (i + 1)) line) ≡ true)
  turn_ok t = rw behind at (first_ok _ _ _ (rw (two line (3 * i) inside) at t))

  pub turn_bytes : bytes_of (drop (3 * i) line) ≡ byte_of (get_or line (3 * i) 0) (get_or line (3 * i + 1) 0) ∷ bytes_of (drop (3 * (i + 1)) line)
  turn_bytes = rw (two line (3 * i) inside, ← behind) (first_bytes _ _ _)
