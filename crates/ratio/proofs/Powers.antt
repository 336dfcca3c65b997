-- On either side of T = 50,000 the limit is the largest that the register takes; in whole units it is a signed L's largest.
use Prim.Native.Nat.{ℕ, ◌/◌, ◌^◌, ◌≤◌, ◌<◌}
use mathlib.Core.Bool.{Bool, true, false, cond}
use native.Mathlib.Omega.{arith}
use lib.Dec.{ltb}
use Rattle.ratio.specs.Powers.{power_unit, top_power, power_limit, power_register}

some : (b : Bool) → 1 ≤ cond b 1 100
some true = omega arith
some false = omega arith

most : (b : Bool) → cond b 1 100 ≤ 100
most true = omega arith
most false = omega arith

limit : (b : Bool) → cond b 4294967295 top_power ≤ top_power
limit true = omega arith
limit false = omega arith

-- what callers may know of the unit and the limit
pub record PowerLaws : Type 0 where
  pub some : (t : ℕ) → 1 ≤ power_unit t
  pub most : (t : ℕ) → power_unit t ≤ 100
  pub limit : (t : ℕ) → power_limit t ≤ top_power

pub power_laws : PowerLaws
unfolding power_unit power_limit
power_laws =
    record { some = λ t. some (ltb t 50000); most = λ t. most (ltb t 50000); limit = λ t. limit (ltb t 50000) }

register : (b : Bool) (x : ℕ) → x ≤ cond b 4294967295 top_power → x / cond b 1 100 < 65536 ^ 2
register true x h = omega arith
register false x h = omega arith

-- what is within the limit fits its register, and in whole units also a signed L
pub record PowersFit : Type 0 where
  pub register : (t x : ℕ) → x ≤ power_limit t → power_register t x < 65536 ^ 2
  pub signed : (t x : ℕ) → x ≤ power_limit t → x / 100 < 2 ^ 31

pub powers_fit : PowersFit
unfolding power_unit power_limit
powers_fit =
    record {
      register = λ t. register (ltb t 50000);
      signed = λ t x h. omega (arith, power_laws.limit t);
    }
