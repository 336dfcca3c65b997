-- A sign word is 0 or 1, by its two cases.
use mathlib.Core.Bool.{Bool, true, false}
use Prim.Native.Nat.{◌≤◌}
use native.Mathlib.Omega.{arith}
use Rattle.signed.specs.Signs.{sign_word}

pub sign_most : (negative : Bool) → sign_word negative ≤ 1
sign_most true = omega arith
sign_most false = omega arith
