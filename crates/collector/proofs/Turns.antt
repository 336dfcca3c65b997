-- Asking one by one, as far as it goes: what is known once the first n have each a reading, and where one is refused.
use mathlib.Core.Path.{◌≡◌, refl, sym, ap, ap₂, ◌∙◌}
use mathlib.Core.Bool.{Bool, true, false, ◌||◌, or-true, false≢true}
use mathlib.Core.List.{List, [], ◌∷◌, ◌++◌, map, map-append}
use Prim.Native.Nat.{ℕ, zero, suc, ◌+◌, ◌-◌, ◌≤◌, ◌<◌}
use native.Mathlib.Omega.{arith}
use lib.Dec.{ltb}
use lib.ListN.{length, get_or, take, drop, set, length-append, length-map, get_or-append, get_or-map}
use lib.Seq.{sets, sets-eq, length-sets, take-suc, length-take-le, get_or-drop, get_or-append_seam, get_or-append-add}
use borrow.Author.Tests.{ltb-true, ltb-false}
use Rattle.words.proofs.Laws.{sets_append}
use Rattle.modbus.proofs.Frames.{neither}
use Rattle.reading.specs.declared.Quantity.{Quantity}
use Rattle.reading.specs.declared.Answer.{Answer}
use Rattle.reading.specs.declared.Answer.TheVariants.{Reading}
use Rattle.reading.specs.Told.{kind_of}
use Rattle.reading.specs.Cells.{cell_of}
use Rattle.collector.specs.Whole.{in_turn, is_thirteen, any_thirteen, readings_in}

-- ---- any calls

pub turns_length : (n : ℕ) (ask : ℕ → Answer) → length (in_turn n ask) ≡ n
unfolding in_turn
turns_length zero ask = refl
turns_length (suc n) ask = length-append (in_turn n ask) (ask n ∷ []) ∙ omega (arith, turns_length n ask)

pub turns_same : (n : ℕ) (f g : ℕ → Answer) → ((i : ℕ) → i < n → f i ≡ g i) → in_turn n f ≡ in_turn n g
unfolding in_turn
turns_same zero f g h = refl
turns_same (suc n) f g h =
    ap₂ (λ (l : List Answer) (a : Answer). l ++ (a ∷ [])) (turns_same n f g (λ i b. h i (omega (arith, b)))) (h n (omega arith))

pub turns_at : (n : ℕ) (ask : ℕ → Answer) (i : ℕ) (d : Answer) → i < n → get_or (in_turn n ask) i d ≡ ask i
unfolding in_turn
turns_at zero ask i d b = absurd (omega (arith, b))
turns_at (suc n) ask i d b = by (ltb i n) refl (turns_at n ask i d)
  where
    by : (t : Bool) → ltb i n ≡ t → (i < n → get_or (in_turn n ask) i d ≡ ask i) → get_or (in_turn n ask ++ (ask n ∷ [])) i d ≡ ask i
    by true e before =
        let inside = ltb-true i n e in
        get_or-append (in_turn n ask) (ask n ∷ []) d i (omega (arith, inside, turns_length n ask)) ∙ before inside
    by false e before =
        let last : i ≡ n = omega (arith, b, ltb-false i n e) in
        let seam : i ≡ length (in_turn n ask) = omega (arith, last, turns_length n ask) in
        ap (λ (j : ℕ). get_or (in_turn n ask ++ (ask n ∷ [])) j d) seam ∙ get_or-append_seam (in_turn n ask) (ask n) [] d ∙ ap ask (sym last)

-- ---- 13 at one of them

any_append : (xs ys : List Answer) → any_thirteen (xs ++ ys) ≡ (any_thirteen xs || any_thirteen ys)
unfolding any_thirteen
any_append [] ys = refl
any_append (a ∷ xs) ys = by (is_thirteen a) (any_append xs ys)
  where
    by : (b : Bool) → any_thirteen (xs ++ ys) ≡ (any_thirteen xs || any_thirteen ys) → (b || any_thirteen (xs ++ ys)) ≡ ((b || any_thirteen xs) || any_thirteen ys)
    by true h = refl
    by false h = h

any_last : (a : Answer) → is_thirteen a ≡ true → any_thirteen (a ∷ []) ≡ true
unfolding any_thirteen
any_last a h = rw h refl

pub any_at : (n : ℕ) (ask : ℕ → Answer) (i : ℕ) → i < n → is_thirteen (ask i) ≡ true → any_thirteen (in_turn n ask) ≡ true
unfolding in_turn
any_at zero ask i b h = absurd (omega (arith, b))
any_at (suc n) ask i b h = any_append (in_turn n ask) (ask n ∷ []) ∙ by (ltb i n) refl (λ below. any_at n ask i below h)
  where
    by : (t : Bool) → ltb i n ≡ t → (i < n → any_thirteen (in_turn n ask) ≡ true) → (any_thirteen (in_turn n ask) || any_thirteen (ask n ∷ [])) ≡ true
    by true e before = rw (before (ltb-true i n e)) refl
    by false e before =
        let last : i ≡ n = omega (arith, b, ltb-false i n e) in
        rw (any_last (ask n) (rw (sym last) h)) (or-true (any_thirteen (in_turn n ask)))

-- and where there is none, not at any
pub none_at : (n : ℕ) (ask : ℕ → Answer) → any_thirteen (in_turn n ask) ≡ false → (i : ℕ) → i < n → is_thirteen (ask i) ≡ false
none_at n ask h i b = by (is_thirteen (ask i)) refl
  where
    by : (t : Bool) → is_thirteen (ask i) ≡ t → is_thirteen (ask i) ≡ false
    by true e = absurd (false≢true (sym h ∙ any_at n ask i b e))
    by false e = e

-- where there is one, it stands somewhere
pub any_where : (n : ℕ) (ask : ℕ → Answer) → any_thirteen (in_turn n ask) ≡ true → (i : ℕ) × (i < n) × (is_thirteen (ask i) ≡ true)
unfolding in_turn any_thirteen
any_where zero ask h = absurd (false≢true h)
any_where (suc n) ask h = by (any_thirteen (in_turn n ask)) (is_thirteen (ask n)) refl refl (any_where n ask)
  where
    whole : (any_thirteen (in_turn n ask) || (is_thirteen (ask n) || false)) ≡ true
    whole = sym (any_append (in_turn n ask) (ask n ∷ [])) ∙ h

    by : (before last : Bool) → any_thirteen (in_turn n ask) ≡ before → is_thirteen (ask n) ≡ last → (any_thirteen (in_turn n ask) ≡ true → (i : ℕ) × (i < n) × (is_thirteen (ask i) ≡ true)) → (i : ℕ) × (i < suc n) × (is_thirteen (ask i) ≡ true)
    by true last e f found = let w = found e in (w.0, omega (arith, w.1), w.2)
    by false true e f found = (n, omega arith, f)
    by false false e f found = absurd (false≢true (sym (ap₂ (λ (x y : Bool). x || (y || false)) e f) ∙ whole))

-- ---- a reading from each

any_none : (qs : List Quantity) → any_thirteen (map Reading qs) ≡ false
unfolding any_thirteen
any_none [] = refl
any_none (q ∷ qs) = any_none qs

readings_back : (qs : List Quantity) → readings_in (map Reading qs) ≡ qs
unfolding readings_in
readings_back [] = refl
readings_back (q ∷ qs) = ap (λ (l : List Quantity). q ∷ l) (readings_back qs)

-- the first n answers are these readings
abbrev pub Read : ℕ → (ℕ → Answer) → List Quantity → Type 0
Read n ask qs = in_turn n ask ≡ map Reading qs

module _ (n : ℕ) (ask : ℕ → Answer) (qs : List Quantity) (read : Read n ask qs) where
  pub read_length : length qs ≡ n
  read_length = sym (length-map qs Reading) ∙ ap length (sym read) ∙ turns_length n ask

  pub read_none : any_thirteen (in_turn n ask) ≡ false
  read_none = ap any_thirteen read ∙ any_none qs

  pub read_all : readings_in (in_turn n ask) ≡ qs
  read_all = ap readings_in read ∙ readings_back qs

  pub read_next : (q : Quantity) → ask n ≡ Reading q → Read (suc n) ask (qs ++ (q ∷ []))
  unfolding in_turn
  read_next q h = ap₂ (λ (l : List Answer) (a : Answer). l ++ (a ∷ [])) read h ∙ sym (map-append Reading qs (q ∷ []))

  pub read_at : (i : ℕ) (d : Quantity) → i < n → ask i ≡ Reading (get_or qs i d)
  read_at i d b = sym (turns_at n ask i (Reading d) b) ∙ ap (λ (l : List Answer). get_or l i (Reading d)) read ∙ get_or-map Reading qs i d

-- where none is refused with 13, and what is not so refused is read
pub turns_read : (n : ℕ) (ask : ℕ → Answer) → ((i : ℕ) → i < n → is_thirteen (ask i) ≡ false → (q : Quantity) × (ask i ≡ Reading q)) → any_thirteen (in_turn n ask) ≡ false → (qs : List Quantity) × Read n ask qs
unfolding in_turn any_thirteen
turns_read zero ask reads h = ([], refl)
turns_read (suc n) ask reads h =
    let parts = neither (any_thirteen (in_turn n ask)) (any_thirteen (ask n ∷ [])) (sym (any_append (in_turn n ask) (ask n ∷ [])) ∙ h) in
    let before = turns_read n ask (λ i b. reads i (omega (arith, b))) parts.0 in
    let last = reads n (omega arith) (neither (is_thirteen (ask n)) false parts.1).0 in
    (before.0 ++ (last.0 ∷ []), read_next n ask before.0 before.1 last.0 last.1)

-- ---- laid out in a row

-- a row that was laid out is as long as it was
pub laid_length : (l r vs : List ℕ) → r ≡ sets l 0 vs → length r ≡ length l
laid_length l r vs h = ap length h ∙ length-sets l 0 vs

-- one cell more
pub one_more : (l xs : List ℕ) (x i : ℕ) → length xs ≡ i → set (sets l 0 xs) i x ≡ sets l 0 (xs ++ (x ∷ []))
one_more l xs x i h =
    let at : i ≡ 0 + length xs = omega (arith, h) in
    ap (λ (j : ℕ). set (sets l 0 xs) j x) at ∙ sym (sets_append l 0 xs (x ∷ []))

pub laid_next : (f : Quantity → ℕ) (l : List ℕ) (qs : List Quantity) (q : Quantity) (i : ℕ) → length qs ≡ i → set (sets l 0 (map f qs)) i (f q) ≡ sets l 0 (map f (qs ++ (q ∷ [])))
laid_next f l qs q i h = one_more l (map f qs) (f q) i (length-map qs f ∙ h) ∙ ap (sets l 0) (sym (map-append f qs (q ∷ [])))

pub copied_next : (l from : List ℕ) (i : ℕ) → i < length from → set (sets l 0 (take i from)) i (get_or from i 0) ≡ sets l 0 (take (suc i) from)
copied_next l from i h = one_more l (take i from) (get_or from i 0) i (length-take-le i from (omega (arith, h))) ∙ ap (sets l 0) (sym (take-suc from i 0 h))

-- ---- and read there

map_at : (f : Quantity → ℕ) (qs : List Quantity) (i : ℕ) (d : Quantity) → i < length qs → get_or (map f qs) i 0 ≡ f (get_or qs i d)
map_at f [] i d h = absurd (omega (arith, h))
map_at f (q ∷ qs) zero d h = refl
map_at f (q ∷ qs) (suc i) d h = map_at f qs i d (omega (arith, h))

module _ (f : Quantity → ℕ) (l : List ℕ) (qs : List Quantity) (i : ℕ) (room : length qs ≤ length l) where
  whole : sets l 0 (map f qs) ≡ map f qs ++ drop (length qs) l
  whole =
      let long : 0 + length (map f qs) ≡ length qs = omega (arith, length-map qs f) in
      sets-eq (map f qs) l 0 (omega (arith, room, long)) ∙ ap (λ (n : ℕ). map f qs ++ drop n l) long

  -- in a cell of the items
  pub cell_in : (d : Quantity) → i < length qs → get_or (sets l 0 (map f qs)) i 0 ≡ f (get_or qs i d)
  cell_in d b = ap (λ (r : List ℕ). get_or r i 0) whole ∙ get_or-append (map f qs) (drop (length qs) l) 0 i (omega (arith, b, length-map qs f)) ∙ map_at f qs i d b

  -- and beyond
  pub cell_beyond : length qs ≤ i → get_or (sets l 0 (map f qs)) i 0 ≡ get_or l i 0
  cell_beyond b =
      let k = i - length qs in
      let at : i ≡ length (map f qs) + k = omega (arith, b, length-map qs f) in
      let here : length qs + k ≡ i = omega (arith, b) in
      ap₂ (λ (r : List ℕ) (j : ℕ). get_or r j 0) whole at
      ∙ get_or-append-add (map f qs) (drop (length qs) l) k 0
      ∙ get_or-drop (length qs) l k 0
      ∙ ap (λ (j : ℕ). get_or l j 0) here

-- the first i items are read, and laid out
pub record Laid (ask : ℕ → Answer) (cells₀ numbers₀ cells numbers : List ℕ) (i : ℕ) : Type 0 where
  pub qs : List Quantity
  pub read : Read i ask qs
  pub values : cells ≡ sets cells₀ 0 (map cell_of qs)
  pub kinds : numbers ≡ sets numbers₀ 0 (map kind_of qs)
