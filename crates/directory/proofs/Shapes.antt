-- What the shape of an item tells: a W or B sends one word and has room for two bytes at the most, an L is no B, and what has room in an item
-- has room in its words.
use mathlib.Core.Path.{◌≡◌, refl, sym, ◌∙◌}
use mathlib.Core.Bool.{Bool, true, false, ◌&&◌, ◌||◌, cond, false≢true, and-eq-true_iff}
use Prim.Native.Nat.{ℕ, ◌*◌, ◌≤◌}
use native.Mathlib.Omega.{arith}
use lib.Dec.{eqb}
use borrow.Author.Tests.{eqb-true}
use Rattle.directory.specs.declared.Item.{Item}
use Rattle.directory.specs.Item.{in_bytes, is_b}
use Rattle.directory.specs.Order.{shaped, room_of}
use Rattle.directory.specs.Run.{is_l}
use Rattle.directory.proofs.Order.{Narrow}

pub record Shape (it : Item) : Type 0 where
  pub short : is_l it ≡ false → (it.words ≡ 1) × (room_of it ≤ 2)
  pub long : is_l it ≡ true → is_b it ≡ false
  pub roomy : room_of it ≤ 2 * it.words

-- one of two numbers
one_of : (a b n : ℕ) → (eqb n a || eqb n b) ≡ true → a ≤ 2 → b ≤ 2 → n ≤ 2
one_of a b n h p q = by (eqb n a) refl h
  where
    by : (x : Bool) → eqb n a ≡ x → (x || eqb n b) ≡ true → n ≤ 2
    by true e k = omega (arith, eqb-true n a e, p)
    by false e k = omega (arith, eqb-true n b k, q)

pub shape : (it : Item) → shaped it ≡ true → Shape it
shape it h = by (in_bytes it) (is_l it) refl refl h
  where
    by : (a l : Bool) → in_bytes it ≡ a → is_l it ≡ l → cond a (cond l (eqb it.fills 4) (eqb it.words 1 && (eqb it.fills 2 || eqb it.fills 1))) ((l && eqb it.fills 2) || (eqb it.words 1 && eqb it.fills 1)) ≡ true → Shape it
    by true true a l k =
        let four : it.fills ≡ 4 = eqb-true _ _ k in
        let two : it.words ≡ 2 = eqb-true _ _ l in
        record { short = λ e. absurd (false≢true (sym e ∙ l)); long = λ e. rw (a, four) refl; roomy = rw a (omega (arith, four, two)) }
    by true false a l k =
        let t = (and-eq-true_iff (eqb it.words 1) _).0 k in
        let one : it.words ≡ 1 = eqb-true _ _ t.0 in
        let few : it.fills ≤ 2 = one_of 2 1 it.fills t.1 (omega arith) (omega arith) in
        record { short = λ e. (one, rw a few); long = λ e. absurd (false≢true (sym l ∙ e)); roomy = rw a (omega (arith, one, few)) }
    by false true a l k =
        record { short = λ e. absurd (false≢true (sym e ∙ l)); long = λ e. rw a refl; roomy = rw a (omega arith) }
    by false false a l k =
        let one : it.words ≡ 1 = eqb-true _ _ ((and-eq-true_iff (eqb it.words 1) _).0 k).0 in
        record { short = λ e. (one, rw a (omega (arith, one))); long = λ e. absurd (false≢true (sym l ∙ e)); roomy = rw a (omega arith) }

-- an item of a directory sends one word or two
pub shape_narrow : (it : Item) → shaped it ≡ true → Narrow it
shape_narrow it h = by (is_l it) refl
  where
    by : (l : Bool) → is_l it ≡ l → Narrow it
    by true e = let two = eqb-true it.words 2 e in record { some = omega (arith, two); few = omega (arith, two) }
    by false e = let one = ((shape it h).short e).0 in record { some = omega (arith, one); few = omega (arith, one) }
