-- Words that stand one behind the other.
use mathlib.Core.Path.{◌≡◌, refl, sym, ap, ◌∙◌}
use mathlib.Core.List.{List, ◌∷◌}
use Prim.Native.Nat.{ℕ, zero, suc, ◌+◌, ◌-◌, ◌*◌, ◌<◌}
use native.Mathlib.Numerals.{add-one}
use native.Mathlib.Omega.{arith}
use lib.ListN.{length, set}
use lib.Seq.{sets}
use Rattle.words.specs.Words.{word_at}
use Rattle.modbus.specs.Frame.{words_at}

pub length_words : (n : ℕ) (l : List ℕ) (at : ℕ) → length (words_at n l at) ≡ n
unfolding words_at
length_words zero l at = refl
length_words (suc n) l at = ap suc (length_words n l (at + 2))

-- what is left of them, one word on
words_on : (n i at : ℕ) (l : List ℕ) → i < n → words_at (n - i) l (at + 2 * i) ≡ word_at l (at + 2 * i) ∷ words_at (n - (i + 1)) l (at + 2 * (i + 1))
unfolding words_at
words_on n i at l h =
    let one_more : n - i ≡ suc (n - (i + 1)) = omega arith in
    let next : at + 2 * i + 2 ≡ at + 2 * (i + 1) = omega arith in
    rw (one_more, ← next) refl

pub sets_words : (into : List ℕ) (n i at : ℕ) (l : List ℕ) → i < n → sets into i (words_at (n - i) l (at + 2 * i)) ≡ sets (set into i (word_at l (at + 2 * i))) (i + 1) (words_at (n - (i + 1)) l (at + 2 * (i + 1)))
sets_words into n i at l h =
    let rest = words_at (n - (i + 1)) l (at + 2 * (i + 1)) in
    ap (sets into i) (words_on n i at l h) ∙ ap (λ (k : ℕ). sets (set into i (word_at l (at + 2 * i))) k rest) (sym (add-one i))

pub words_none : (n i at : ℕ) (l : List ℕ) → i ≡ n → words_at (n - i) l at ≡ words_at 0 l at
words_none n i at l e = let none_left : n - i ≡ 0 = omega arith in rw none_left refl
