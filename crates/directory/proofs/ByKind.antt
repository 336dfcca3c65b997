-- A quantity is 64 × kind + which, so what is left of it without `which` tells the kind.
use mathlib.Core.Path.{◌≡◌, refl}
use mathlib.Core.List.{List, ◌++◌}
use Prim.Native.Nat.{ℕ, zero, suc, ◌+◌, ◌-◌, ◌*◌, ◌/◌, ◌%◌, ◌≤◌, zero-le}
use native.Mathlib.Omega.{arith}
use lib.ListN.{length, get_or, replicate, get_or-eq_default}

pub kind_is : (q k : ℕ) → q - q % 64 ≡ 64 * k → q / 64 ≡ k
kind_is q k h = omega (arith, h)

-- a list that starts with n of its default has it wherever it is not among the rest
pub none_at : {A : Type 0} (d : A) (n : ℕ) (l : List A) (k : ℕ) → (n ≤ k → n + length l ≤ k) → get_or (replicate n d ++ l) k d ≡ d
none_at d zero l k h = get_or-eq_default l d (omega (arith, h zero-le))
none_at d (suc n) l zero h = refl
none_at d (suc n) l (suc k) h = none_at d n l k (λ from. omega (arith, h (omega (arith, from))))

-- what is shown of one after the other
infixr 4 ◌also◌
pub ◌also◌ : {A B : Type 0} → A → B → A × B
a also b = (a, b)
