-- A group's words by their indices, so that its test computes: what is left of it are the words that have a range.
use mathlib.Core.Path.{◌≡◌, ap, ◌∙◌}
use mathlib.Core.List.{List, [], ◌∷◌}
use mathlib.Core.Bool.{◌&&◌, and_assoc, and-true}
use Prim.Native.Nat.{ℕ, zero, suc, ◌+◌}
use native.Mathlib.Omega.{arith}
use lib.ListN.{length, get_or, drop, drop_of_length-le}
use lib.Seq.{drop-cons}
use Rattle.setup.specs.Ranges.{word_ok, group_ok}

-- n words from index i on
row : ℕ → ℕ → List ℕ → List ℕ
row i zero l = []
row i (suc n) l = get_or l i 0 ∷ row (suc i) n l

row_is : (n i : ℕ) (l : List ℕ) → length l ≡ i + n → drop i l ≡ row i n l
unfolding row
row_is zero i l h = drop_of_length-le l {i = i} (omega (arith, h))
row_is (suc n) i l h =
    drop-cons l i 0 (omega (arith, h)) ∙ ap (λ (r : List ℕ). get_or l i 0 ∷ r) (row_is n (suc i) l (omega (arith, h)))

pub standard_is : (l : List ℕ) → length l ≡ 16 → group_ok 0x2000 l ≡ (word_ok 0x2005 (get_or l 5 0) && word_ok 0x200a (get_or l 10 0) && word_ok 0x200b (get_or l 11 0) && word_ok 0x200c (get_or l 12 0) && word_ok 0x200d (get_or l 13 0) && word_ok 0x200e (get_or l 14 0))
unfolding row group_ok word_ok
standard_is l h = ap (group_ok 0x2000) (row_is 16 0 l h) ∙ simp (and_assoc, and-true)

pub output_is : (l : List ℕ) → length l ≡ 24 → group_ok 0x2200 l ≡ (word_ok 0x2215 (get_or l 21 0) && word_ok 0x2216 (get_or l 22 0) && word_ok 0x2217 (get_or l 23 0))
unfolding row group_ok word_ok
output_is l h = ap (group_ok 0x2200) (row_is 24 0 l h) ∙ simp (and_assoc, and-true)
