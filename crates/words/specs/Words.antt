-- Paper 01, "The directory": L = two words; W = one word; B = one byte, sent as a word with upper byte 0. Documents 001 and 003, 2.2: in
-- a word the upper byte goes first. Paper 02, request 5: an order, upper or lower word first.
use Rattle.std.specs.Prelude.{◌≡◌, ℕ, zero, suc, ◌+◌, ◌*◌, ◌/◌, ◌%◌, ◌^◌, ◌≤◌, ◌<◌, ◌↔◌, List, [], ◌∷◌, ◌++◌, length, get_or}
use Rattle.std.proofs.lemmas.List.Edits.{sets}
use Rattle.words.specs.declared.Order.{Order}
use Rattle.words.specs.declared.Order.TheVariants.{UpperFirst, LowerFirst}

-- a word: two bytes, upper byte first
abbrev pub word : ℕ → List ℕ
word w = w / 256 ∷ w % 256 ∷ []

-- the upper part of a value and its lower part, in an order
abbrev pub in_order : Order → List ℕ → List ℕ → List ℕ
in_order UpperFirst upper lower = upper ++ lower
in_order LowerFirst upper lower = lower ++ upper

-- the words of a value in an order: n is 1 for W and B, 2 for L
unfoldable pub sent : Order → ℕ → ℕ → List ℕ
sent o zero v = []
sent o (suc n) v = in_order o (sent o n (v / 65536)) (word (v % 65536))

-- the word that stands at a place
abbrev pub word_at : List ℕ → ℕ → ℕ
word_at l at = get_or l at 0 * 256 + get_or l (at + 1) 0

-- where the lowest word stands of n others and it, which stand from a place on in an order
abbrev pub lowest_at : Order → ℕ → ℕ → ℕ
lowest_at UpperFirst n at = at + 2 * n
lowest_at LowerFirst n at = at

-- and where the others begin
abbrev pub others_at : Order → ℕ → ℕ
others_at UpperFirst at = at
others_at LowerFirst at = at + 2

-- the value of the n words that stand from a place on in an order
unfoldable pub value_at : Order → ℕ → List ℕ → ℕ → ℕ
value_at o zero l at = 0
value_at o (suc n) l at = value_at o n l (others_at o at) * 65536 + word_at l (lowest_at o n at)

-- the value of two words with these exchanged
abbrev pub exchanged : ℕ → ℕ
exchanged v = v % 65536 * 65536 + v / 65536

-- STATEMENT: B is sent as a word with upper byte 0, in any order
pub record ByteSent : Type 0 where
  pub bytes : (o : Order) (v : ℕ) → v < 256 → sent o 1 v ≡ 0 ∷ v ∷ []

-- STATEMENT: what was sent is read back, over any order and width and wherever it stands
pub record ReadBack : Type 0 where
  pub between :
      (o : Order) (n v : ℕ) (before after : List ℕ) → v < 65536 ^ n →
      value_at o n (before ++ sent o n v ++ after) (length before) ≡ v
  pub stored :
      (o : Order) (n v : ℕ) (l : List ℕ) (at : ℕ) → v < 65536 ^ n → at + 2 * n ≤ length l →
      value_at o n (sets l at (sent o n v)) at ≡ v

-- STATEMENT: what an order is to words (request 5): the bytes of an L in each, an upper and a lower word; none to W and B; and what was
-- sent in one and is read in the other is the value with its words exchanged, which is the same value exactly when they are equal
pub record Orders : Type 0 where
  pub upper_first : (v : ℕ) → v < 65536 ^ 2 → sent UpperFirst 2 v ≡ word (v / 65536) ++ word (v % 65536)
  pub lower_first : (v : ℕ) → v < 65536 ^ 2 → sent LowerFirst 2 v ≡ word (v % 65536) ++ word (v / 65536)
  pub one_sent : (o p : Order) (v : ℕ) → sent o 1 v ≡ sent p 1 v
  pub one_read : (o p : Order) (l : List ℕ) (at : ℕ) → value_at o 1 l at ≡ value_at p 1 l at
  pub other :
      (o p : Order) (v : ℕ) (before after : List ℕ) → (o ≡ p → ⊥) → v < 65536 ^ 2 →
      value_at p 2 (before ++ sent o 2 v ++ after) (length before) ≡ exchanged v
  pub same : (v : ℕ) → v < 65536 ^ 2 → (exchanged v ≡ v) ↔ (v / 65536 ≡ v % 65536)
