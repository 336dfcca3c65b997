-- The length of a line is the place of the first line feed, or the length of what is left where there is none.
use lib.ListN.{length, get_or, drop, drop_of_length-le}
use Rattle.std.proofs.Common.{◌≡◌, refl, ◌∙◌, List, ℕ, ◌≤◌, ◌<◌}
use lib.Dec.{eqb}
use Rattle.std.proofs.lemmas.List.Recursion.{is_position_or_len}
use Rattle.std.proofs.lemmas.List.Sums.{position_or_len_is}
use borrow.Author.Tests.{eq-eqb, ne_eqb}
use Rattle.lines.specs.Lines.{line_length}

pub line_is : (l : List ℕ) (n : ℕ) → n ≤ length l → ((k : ℕ) → k < n → get_or l k 0 ≡ 0x0A → ⊥) → (n < length l → get_or l n 0 ≡ 0x0A) → line_length l ≡ n
unfolding line_length
line_is l n within before found =
    is_position_or_len line_length (λ c. eqb c 0x0A) refl (λ c cs. refl) l
    ∙ position_or_len_is (λ c. eqb c 0x0A) l n 0 within (λ k h. ne_eqb (get_or l k 0) 0x0A (before k h)) (λ h. eq-eqb (get_or l n 0) 0x0A (found h))

pub none_left : (l : List ℕ) (i : ℕ) → length l ≤ i → line_length (drop i l) ≡ 0
unfolding line_length
none_left l i h = rw (drop_of_length-le l h)
