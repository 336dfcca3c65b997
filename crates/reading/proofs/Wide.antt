-- Each item of a directory that passes the tests is as wide as its quantity asks: a quantity of four bytes has room in an L alone, one of two or
-- fewer does not take an L's words.
use mathlib.Core.Path.{◌≡◌, refl, ap}
use mathlib.Core.Bool.{Bool, true, false, ◌&&◌, ◌||◌, cond, and-eq-true_iff}
use mathlib.Core.List.{List, [], ◌∷◌}
use Prim.Native.Nat.{ℕ, zero, suc, ◌+◌, ◌*◌, ◌/◌, ◌%◌, ◌≤◌, ◌<◌, zero-le}
use native.Mathlib.Omega.{arith}
use lib.Dec.{T, leb, ltb, eqb}
use lib.ListN.{length, get_or, replicate, get_or-eq_default}
use borrow.Author.Tests.{leb-true, ltb-true, ltb-false, eqb-true}
use Rattle.directory.specs.declared.Item.{Item}
use Rattle.directory.specs.Item.{none}
use Rattle.directory.specs.Quantity.{widths, width_of}
use Rattle.directory.specs.Order.{room_of, shaped, meant, tested}
use Rattle.directory.specs.Run.{is_l}
use Rattle.directory.proofs.ByKind.{◌also◌}
use Rattle.directory.proofs.Rules.{directory_rules}
use Rattle.directory.proofs.Shapes.{Shape, shape}
use Rattle.reading.proofs.ByKind.{Each, each_at}

-- voltage to High are L, and so is the factor in thousandths
abbrev is_long : ℕ → ℕ → Bool
is_long kind which = ltb kind 8 || (eqb kind 9 && eqb which 1)

-- the words of a quantity
abbrev pub words_for : ℕ → ℕ → ℕ
words_for kind which = cond (is_long kind which) 2 1

-- ---- the bytes of a quantity, by its kind

-- of a kind's quantities each takes three bytes or more, or two or fewer
abbrev Takes : ℕ → ℕ → ℕ → Type 0
Takes kind which width = 1 ≤ width → cond (is_long kind which) (3 ≤ width) (width ≤ 2)

abbrev Kind : ℕ → Type 0
Kind k = (which : ℕ) → Takes k which (get_or (get_or widths k []) which 0)

alike : (n w which : ℕ) → 1 ≤ get_or (replicate n w) which 0 → get_or (replicate n w) which 0 ≡ w
alike zero w which h = absurd (omega (arith, h))
alike (suc n) w zero h = refl
alike (suc n) w (suc which) h = alike n w which h

-- four bytes each
fours : (n which : ℕ) → 1 ≤ get_or (replicate n 4) which 0 → 3 ≤ get_or (replicate n 4) which 0
fours n which h = omega (arith, alike n 4 which h)

-- two bytes or fewer each
abbrev Small : List ℕ → Type 0
Small [] = Unit
Small (w ∷ ws) = (w ≤ 2) × Small ws

small_at : (ws : List ℕ) → Small ws → (which : ℕ) → get_or ws which 0 ≤ 2
small_at [] h which = omega arith
small_at (w ∷ ws) h zero = h.0
small_at (w ∷ ws) h (suc which) = small_at ws h.1 which

smalls : (n w : ℕ) → w ≤ 2 → Small (replicate n w)
smalls zero w h = tt
smalls (suc n) w h = (h, smalls n w h)

factors : Kind 9
factors zero h = omega arith
factors (suc zero) h = omega arith
factors (suc (suc which)) h = absurd (omega (arith, h))

kinds : Each Kind 0 17
kinds =
    (λ which h. absurd (omega (arith, h))) also
    fours 6 also
    fours 4 also
    fours 12 also
    fours 8 also
    fours 4 also
    fours 4 also
    fours 4 also
    (λ which h. small_at (replicate 4 2) (smalls 4 2 (omega arith)) which) also
    factors also
    (λ which h. small_at (replicate 8 1) (smalls 8 1 (omega arith)) which) also
    (λ which h. small_at (1 ∷ []) (omega arith, tt) which) also
    (λ which h. small_at (2 ∷ []) (omega arith, tt) which) also
    (λ which h. small_at (2 ∷ []) (omega arith, tt) which) also
    (λ which h. small_at (2 ∷ []) (omega arith, tt) which) also
    (λ which h. small_at (1 ∷ []) (omega arith, tt) which) also
    (λ which h. small_at (1 ∷ 1 ∷ 2 ∷ 1 ∷ replicate (16 + 24) 2) (omega arith, (omega arith, (omega arith, (omega arith, smalls (16 + 24) 2 (omega arith))))) which) also
    tt

-- what takes a byte is a quantity, of one of 16 kinds
kind_most : (q : ℕ) → 1 ≤ width_of q → q / 64 < 17
kind_most q h = by (ltb (q / 64) 17) refl
  where
    by : (b : Bool) → ltb (q / 64) 17 ≡ b → q / 64 < 17
    by true e = ltb-true _ _ e
    by false e = absurd (omega (arith, h, ap (λ (ws : List ℕ). get_or ws (q % 64) 0) (get_or-eq_default widths [] (ltb-false (q / 64) 17 e))))

kind_least : (q : ℕ) → 1 ≤ width_of q → 1 ≤ q / 64
kind_least q h = by (q / 64) refl
  where
    by : (k : ℕ) → q / 64 ≡ k → 1 ≤ q / 64
    by zero e = absurd (omega (arith, h, ap (λ (i : ℕ). get_or (get_or widths i []) (q % 64) 0) e))
    by (suc k) e = omega (arith, e)

takes : (q : ℕ) → 1 ≤ width_of q → cond (is_long (q / 64) (q % 64)) (3 ≤ width_of q) (width_of q ≤ 2)
takes q h = each_at Kind 0 17 (q / 64) kinds zero-le (kind_most q h) (q % 64) h

-- ---- an item

-- it has the words of its quantity, which is of one of the 16 kinds
pub record Wide (it : Item) : Type 0 where
  pub words : it.words ≡ words_for (it.quantity / 64) (it.quantity % 64)
  pub least : 1 ≤ it.quantity / 64
  pub most : it.quantity / 64 < 17

-- what takes three bytes has no room in a W; what takes two or fewer leaves a word of an L
words_of : (it : Item) → Shape it → (long : Bool) → is_l it ≡ long → (wide : Bool) → cond wide (3 ≤ width_of it.quantity) (width_of it.quantity ≤ 2) → width_of it.quantity ≤ room_of it → 2 * it.words < 2 + width_of it.quantity → it.words ≡ cond wide 2 1
words_of it s true l true w room whole = eqb-true _ _ l
words_of it s true l false w room whole = absurd (omega (arith, eqb-true it.words 2 l, w, whole))
words_of it s false l true w room whole = absurd (omega (arith, (s.short l).1, w, room))
words_of it s false l false w room whole = (s.short l).0

pub wide : (it : Item) → shaped it ≡ true → meant it ≡ true → Wide it
wide it shapely means =
    let q = it.quantity in
    let m = (and-eq-true_iff (leb 1 (width_of q) && leb (width_of q) (room_of it)) _).0 means in
    let n = (and-eq-true_iff (leb 1 (width_of q)) _).0 m.0 in
    let some = leb-true _ _ n.0 in
    record {
      words = words_of it (shape it shapely) (is_l it) refl (is_long (q / 64) (q % 64)) (takes q some) (leb-true _ _ n.1) (ltb-true _ _ m.1);
      least = kind_least q some;
      most = kind_most q some;
    }

pub wide_at : (dir : List Item) → T (tested dir) → (i : ℕ) → i < length dir → Wide (get_or dir i none)
wide_at dir tests i h = wide (get_or dir i none) ((directory_rules dir tests).shapes i h) ((directory_rules dir tests).meanings i h)
