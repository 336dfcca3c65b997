-- What shifts, masks and exclusive-ors make of an exclusive-or is the exclusive-or of what they make of its two sides, for each
-- of them keeps to the bits. Two functions that do so are equal if they are equal at each power of two, and that antt computes.
use mathlib.Core.Path.{◌≡◌, refl, sym, ap, ap₂, ◌∙◌}
use mathlib.Core.Bool.{Bool, true, false, ◌&&◌, and-eq-true_iff}
use Prim.Native.Nat.{ℕ, zero, suc, ◌-◌, ◌*◌, ◌/◌, ◌%◌, ◌^◌, ◌≤◌, ◌<◌}
use native.Mathlib.Nat.{add-zero, one-mul, pow-suc}
use native.Mathlib.Omega.{arith}
use lib.Arith.{bin_ind}
use lib.Bits.{bit_xor, xor_comm, xor_self, xor_shr, xor_mod, xor_block, xor_shifted}
use lib.Dec.{leb, eqb}
use lib.Pow.{pow_pos}
use borrow.Author.Tests.{leb-true, leb-false, eqb-true}
use Rattle.eight.specs.AtOnce.{Linear, run}
use Rattle.eight.specs.AtOnce.Linear.{it, shr, shl, low, xor, on}

bits_assoc : (x y z : ℕ) → x < 2 → y < 2 → z < 2 → bit_xor (bit_xor x y) z ≡ bit_xor x (bit_xor y z)
bits_assoc zero y z hx hy hz = refl
bits_assoc (suc zero) zero z hx hy hz = refl
bits_assoc (suc zero) (suc zero) zero hx hy hz = refl
bits_assoc (suc zero) (suc zero) (suc zero) hx hy hz = refl
bits_assoc (suc zero) (suc zero) (suc (suc z)) hx hy hz = absurd (omega arith)
bits_assoc (suc zero) (suc (suc y)) z hx hy hz = absurd (omega arith)
bits_assoc (suc (suc x)) y z hx hy hz = absurd (omega arith)

pub xor_half : (a b : ℕ) → bit_xor a b / 2 ≡ bit_xor (a / 2) (b / 2)
xor_half a b = xor_shr a b 1

pub xor_odd : (a b : ℕ) → bit_xor a b % 2 ≡ bit_xor (a % 2) (b % 2)
xor_odd a b = xor_mod a b 1

pub xor_assoc : (a b c : ℕ) → bit_xor (bit_xor a b) c ≡ bit_xor a (bit_xor b c)
xor_assoc = bin_ind (λ (a : ℕ). (b c : ℕ) → bit_xor (bit_xor a b) c ≡ bit_xor a (bit_xor b c)) (λ b c. refl) step
  where
    step : (a : ℕ) → ((b c : ℕ) → bit_xor (bit_xor (a / 2) b) c ≡ bit_xor (a / 2) (bit_xor b c)) → (b c : ℕ) → bit_xor (bit_xor a b) c ≡ bit_xor a (bit_xor b c)
    step a ih b c =
        let half : bit_xor (bit_xor a b) c / 2 ≡ bit_xor a (bit_xor b c) / 2 = simp xor_half (ih (b / 2) (c / 2)) in
        let odd : bit_xor (bit_xor a b) c % 2 ≡ bit_xor a (bit_xor b c) % 2 =
        simp xor_odd (bits_assoc (a % 2) (b % 2) (c % 2) (omega arith) (omega arith) (omega arith)) in
        omega arith

pub xor_swap : (a b c d : ℕ) → bit_xor (bit_xor a b) (bit_xor c d) ≡ bit_xor (bit_xor a c) (bit_xor b d)
xor_swap a b c d =
    xor_assoc a b (bit_xor c d)
    ∙ ap (bit_xor a) (sym (xor_assoc b c d) ∙ ap (λ (x : ℕ). bit_xor x d) (xor_comm b c) ∙ xor_assoc c b d)
    ∙ sym (xor_assoc a c (bit_xor b d))

xor_shl : (k a b : ℕ) → bit_xor a b * 2 ^ k ≡ bit_xor (a * 2 ^ k) (b * 2 ^ k)
xor_shl k a b = sym (simp add-zero at (xor_block k a b 0 0 (pow_pos k) (pow_pos k)))

pub run_xor : (f : Linear) (a b : ℕ) → run f (bit_xor a b) ≡ bit_xor (run f a) (run f b)
run_xor it a b = refl
run_xor (shr k f) a b = rw (run_xor f a b) (xor_shr _ _ k)
run_xor (shl k f) a b = rw (run_xor f a b, xor_shl) (xor_mod (run f a * 2 ^ k) (run f b * 2 ^ k) 64)
run_xor (low k f) a b = rw (run_xor f a b) (xor_mod _ _ k)
run_xor (xor f g) a b = rw (run_xor f a b, run_xor g a b) (xor_swap (run f a) (run f b) (run g a) (run g b))
run_xor (on f g) a b = rw (run_xor g a b) (run_xor f _ _)

-- what it makes of an exclusive-or is the exclusive-or of what it makes of its two sides
abbrev pub Adds : (ℕ → ℕ) → Type 0
Adds f = (a b : ℕ) → f (bit_xor a b) ≡ bit_xor (f a) (f b)

-- both give the same at each of the n lowest powers of two
unfoldable pub alike : (ℕ → ℕ) → (ℕ → ℕ) → ℕ → Bool
alike f g zero = true
alike f g (suc n) = eqb (f (2 ^ n)) (g (2 ^ n)) && alike f g n

-- and so at each number of n bits
pub by_bits : (f g : ℕ → ℕ) → Adds f → Adds g → (n : ℕ) → alike f g n ≡ true → (x : ℕ) → x < 2 ^ n → f x ≡ g x
unfolding alike
by_bits f g af ag zero t x h =
    let e : x ≡ 0 = omega arith in
    rw (e, af 0 0 ∙ xor_self (f 0), ag 0 0 ∙ xor_self (g 0))
by_bits f g af ag (suc n) t x h = cases (by_bits f g af ag n both.1) (leb (2 ^ n) x) refl
  where
    both : (eqb (f (2 ^ n)) (g (2 ^ n)) ≡ true) × (alike f g n ≡ true)
    both = (and-eq-true_iff (eqb (f (2 ^ n)) (g (2 ^ n))) (alike f g n)).0 t

    cases : ((y : ℕ) → y < 2 ^ n → f y ≡ g y) → (b : Bool) → leb (2 ^ n) x ≡ b → f x ≡ g x
    cases ih false e = ih x (leb-false (2 ^ n) x e)
    cases ih true e =
        let low = x - 2 ^ n in
        let at : 2 ^ n ≤ x = leb-true (2 ^ n) x e in
        let fits : low < 2 ^ n = omega (arith, pow-suc 2 n) in
        let cut : x ≡ bit_xor (2 ^ n) low = omega (arith, simp one-mul at (xor_shifted 1 n low fits)) in
        rw cut (af (2 ^ n) low ∙ ap₂ bit_xor (eqb-true (f (2 ^ n)) (g (2 ^ n)) both.0) (ih low fits) ∙ sym (ag (2 ^ n) low))
