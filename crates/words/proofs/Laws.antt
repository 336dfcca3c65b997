-- What is sent has its length, is stored in parts, and is read back: each over any order and width, by taking off the lowest word.
use mathlib.Core.Path.{◌≡◌, refl, sym, ◌∙◌}
use mathlib.Core.Logic.{◌↔◌}
use mathlib.Core.List.{List, [], ◌∷◌, ◌++◌, append_assoc}
use Prim.Native.Nat.{ℕ, zero, suc, ◌+◌, ◌*◌, ◌/◌, ◌%◌, ◌^◌, ◌≤◌, ◌<◌}
use native.Mathlib.Nat.{add-zero, zero-add, zero-mul, mod-eq_of_lt, div-eq_of_lt, div-add-mod', div-lt_iff_lt-mul, pow-suc}
use native.Mathlib.Omega.{arith}
use lib.ListN.{length, get_or, set, take, drop, length-append}
use lib.Seq.{sets, sets-eq, length-take-le, get_or-append_seam, get_or-append-add}
use Rattle.words.specs.declared.Order.{Order}
use Rattle.words.specs.declared.Order.TheVariants.{UpperFirst, LowerFirst}
use Rattle.words.specs.Words.{word, sent, word_at, lowest_at, others_at, value_at, exchanged, ByteSent, ReadBack, Orders}

-- a run of stores in two parts
pub sets_append : (l : List ℕ) (i : ℕ) (a b : List ℕ) → sets l i (a ++ b) ≡ sets (sets l i a) (i + length a) b
sets_append l i [] b = rw add-zero
sets_append l i (x ∷ a) b =
    let e : i + suc (length a) ≡ suc i + length a = omega arith in
    rw e (sets_append (set l i x) (suc i) a b)

pub length_sent : (o : Order) (n v : ℕ) → length (sent o n v) ≡ 2 * n
unfolding sent
length_sent o zero v = refl
length_sent UpperFirst (suc n) v = simp length-append (omega (arith, length_sent UpperFirst n (v / 65536)))
length_sent LowerFirst (suc n) v = simp length-append (omega (arith, length_sent LowerFirst n (v / 65536)))

-- the two widths of the code
pub sent_word : (o : Order) (v : ℕ) → sent o 1 v ≡ word (v % 65536)
unfolding sent
sent_word UpperFirst v = refl
sent_word LowerFirst v = refl

-- what n words hold
pub value_fits : (l : List ℕ) → ((i : ℕ) → get_or l i 0 < 256) → (o : Order) (n at : ℕ) → value_at o n l at < 65536 ^ n
unfolding value_at
value_fits l bytes o zero at = omega arith
value_fits l bytes o (suc n) at =
    let lowest = lowest_at o n at in
    omega (arith, value_fits l bytes o n (others_at o at), bytes lowest, bytes (lowest + 1))

pub byte_sent : ByteSent
byte_sent =
    record { bytes = λ o v h. sent_word o v ∙ rw (mod-eq_of_lt {n = v} {m = 65536} (omega arith), div-eq_of_lt h, mod-eq_of_lt h) refl }

-- the upper word of two
upper_fits : (v : ℕ) → v < 65536 ^ 2 → v / 65536 % 65536 ≡ v / 65536
upper_fits v h = mod-eq_of_lt ((div-lt_iff_lt-mul {k = 65536} (omega arith)).1 h)

pub sent_upper : (v : ℕ) → v < 65536 ^ 2 → sent UpperFirst 2 v ≡ word (v / 65536) ++ word (v % 65536)
unfolding sent
sent_upper v h = rw (upper_fits v h) refl

pub sent_lower : (v : ℕ) → v < 65536 ^ 2 → sent LowerFirst 2 v ≡ word (v % 65536) ++ word (v / 65536)
unfolding sent
sent_lower v h = rw (upper_fits v h) refl

pub value_word : (o : Order) (l : List ℕ) (at : ℕ) → value_at o 1 l at ≡ word_at l at
unfolding value_at
value_word UpperFirst l at = simp (zero-mul, zero-add, add-zero)
value_word LowerFirst l at = simp (zero-mul, zero-add)

pub value_upper : (l : List ℕ) (at : ℕ) → value_at UpperFirst 2 l at ≡ word_at l at * 65536 + word_at l (at + 2)
unfolding value_at
value_upper l at = simp (zero-mul, zero-add, add-zero)

pub value_lower : (l : List ℕ) (at : ℕ) → value_at LowerFirst 2 l at ≡ word_at l (at + 2) * 65536 + word_at l at
unfolding value_at
value_lower l at = simp (zero-mul, zero-add)

-- the word behind a list
word_behind : (l : List ℕ) (at w : ℕ) (after : List ℕ) → length l ≡ at → word_at (l ++ (word w ++ after)) at ≡ w
word_behind l at w after e =
    rw (← e, get_or-append_seam l (w / 256) (w % 256 ∷ after) 0, get_or-append-add l (word w ++ after) 1 0)
    (div-add-mod' w 256)

-- all but the lowest word of a value
others_fit : (n v : ℕ) → v < 65536 ^ suc n → v / 65536 < 65536 ^ n
others_fit n v h = (div-lt_iff_lt-mul {k = 65536} (omega arith)).1 (rw pow-suc at h)

between : (o : Order) (n v : ℕ) (before after : List ℕ) → v < 65536 ^ n → value_at o n (before ++ sent o n v ++ after) (length before) ≡ v
unfolding sent value_at
between o zero v before after h = omega arith
between UpperFirst (suc n) v before after h =
    let q = v / 65536 in
    let r = v % 65536 in
    let others = sent UpperFirst n q in
    let parts : before ++ (others ++ word r) ++ after ≡ before ++ others ++ (word r ++ after) = simp append_assoc in
    let long : length (before ++ others) ≡ length before + 2 * n = simp (length-append, length_sent) in
    rw (parts, between UpperFirst n q before (word r ++ after) (others_fit n v h), word_behind (before ++ others) _ r after long)
    (div-add-mod' v 65536)
between LowerFirst (suc n) v before after h =
    let q = v / 65536 in
    let r = v % 65536 in
    let others = sent LowerFirst n q in
    let parts : before ++ (word r ++ others) ++ after ≡ (before ++ word r) ++ others ++ after = simp append_assoc in
    let lowest : before ++ (word r ++ others) ++ after ≡ before ++ (word r ++ (others ++ after)) = simp append_assoc in
    let long : length before + 2 ≡ length (before ++ word r) = simp length-append in
    let upper : value_at LowerFirst n (before ++ (word r ++ others) ++ after) (length before + 2) ≡ q =
    rw (parts, long) (between LowerFirst n q (before ++ word r) after (others_fit n v h)) in
    let lower : word_at (before ++ (word r ++ others) ++ after) (length before) ≡ r = rw lowest (word_behind before _ r (others ++ after) refl) in
    rw (upper, lower) (div-add-mod' v 65536)

stored : (o : Order) (n v : ℕ) (l : List ℕ) (at : ℕ) → v < 65536 ^ n → at + 2 * n ≤ length l → value_at o n (sets l at (sent o n v)) at ≡ v
stored o n v l at h room =
    let fits : at + length (sent o n v) ≤ length l = rw length_sent room in
    let front : length (take at l) ≡ at = length-take-le at l (omega arith) in
    rw (sets-eq (sent o n v) l at fits) (rw front at (between o n v (take at l) (drop (at + length (sent o n v)) l) h))

pub read_back_lem : ReadBack
read_back_lem = record { between = between; stored = stored }

-- ---- in one order and in the other

-- two words behind a list
two_behind : (before after : List ℕ) (a b : ℕ) → (word_at (before ++ (word a ++ word b) ++ after) (length before) ≡ a) × (word_at (before ++ (word a ++ word b) ++ after) (length before + 2) ≡ b)
two_behind before after a b =
    let first : before ++ (word a ++ word b) ++ after ≡ before ++ (word a ++ (word b ++ after)) = simp append_assoc in
    let second : before ++ (word a ++ word b) ++ after ≡ (before ++ word a) ++ (word b ++ after) = simp append_assoc in
    let long : length (before ++ word a) ≡ length before + 2 = simp length-append in
    (rw first (word_behind before _ a (word b ++ after) refl), rw second (word_behind (before ++ word a) _ b after long))

other : (o p : Order) (v : ℕ) (before after : List ℕ) → (o ≡ p → ⊥) → v < 65536 ^ 2 → value_at p 2 (before ++ sent o 2 v ++ after) (length before) ≡ exchanged v
other UpperFirst UpperFirst v before after d h = absurd (d refl)
other LowerFirst LowerFirst v before after d h = absurd (d refl)
other UpperFirst LowerFirst v before after d h =
    let two = two_behind before after (v / 65536) (v % 65536) in
    rw (sent_upper v h, value_lower, two.0, two.1) refl
other LowerFirst UpperFirst v before after d h =
    let two = two_behind before after (v % 65536) (v / 65536) in
    rw (sent_lower v h, value_upper, two.0, two.1) refl

same : (v : ℕ) → v < 65536 ^ 2 → (exchanged v ≡ v) ↔ (v / 65536 ≡ v % 65536)
same v h = (λ e. omega (arith, e), λ e. omega (arith, e))

pub orders : Orders
orders = record {
  upper_first = sent_upper;
  lower_first = sent_lower;
  one_sent = λ o p v. sent_word o v ∙ sym (sent_word p v);
  one_read = λ o p l at. value_word o l at ∙ sym (value_word p l at);
  other = other;
  same = same;
}
