-- The magnitude of a sum is at most the sum of the magnitudes.
use mathlib.Core.Path.{◌≡◌, refl}
use mathlib.Core.Bool.{Bool, true, false, cond}
use Prim.Native.Nat.{ℕ, suc, ◌+◌, ◌-◌, ◌≤◌, ◌<◌, ◌^◌, zero-le}
use native.Mathlib.Omega.{arith}
use lib.Dec.{ltb}
use lib.IntN.{ℤ, pos, negsuc, nat_abs, ◌+ℤ◌}
use borrow.Author.Tests.{ltb-true}
use mir.Syntax.{w64}
use mir.Val.{SFits}
use Rattle.signed.specs.declared.Signed.{Signed}
use Rattle.signed.specs.Signs.{above_of, below_of}

difference : (t : Bool) (a b : ℕ) → ltb a b ≡ t → nat_abs (cond t (negsuc (b - suc a)) (pos (a - b))) ≤ a + b
difference true a b h = let l : a < b = ltb-true a b h in omega arith
difference false a b h = omega arith

pub magnitude_sum : (x y : ℤ) → nat_abs (x +ℤ y) ≤ nat_abs x + nat_abs y
magnitude_sum (pos a) (pos b) = omega arith
magnitude_sum (pos a) (negsuc b) = omega (arith, difference (ltb a (suc b)) a (suc b) refl)
magnitude_sum (negsuc a) (pos b) = omega (arith, difference (ltb b (suc a)) b (suc a) refl)
magnitude_sum (negsuc a) (negsuc b) = omega arith

-- a number of a magnitude below 2 ^ 63 fits
pub magnitude_fits : (x : ℤ) → nat_abs x < 2 ^ 63 → SFits w64 x
magnitude_fits (pos n) h = record { sfits = omega arith }
magnitude_fits (negsuc n) h = record { sfits = omega arith }

-- what a number has above zero, and below, is at most its magnitude
pick_le : (t : Bool) {a b top : ℕ} → a ≤ top → b ≤ top → cond t a b ≤ top
pick_le true h k = h
pick_le false h k = k

pub above_le : (s : Signed) {top : ℕ} → s.magnitude ≤ top → above_of s ≤ top
above_le s h = pick_le s.negative zero-le h

pub below_le : (s : Signed) {top : ℕ} → s.magnitude ≤ top → below_of s ≤ top
below_le s h = pick_le s.negative h zero-le
