-- An energy is what it was plus what is carried for it: sample by sample, by one law for the four.
use mathlib.Core.Path.{◌≡◌, refl, ap, ◌∙◌}
use mathlib.Core.Bool.{Bool, true, false, cond}
use Prim.Native.Nat.{ℕ, zero, suc, ◌+◌}
use native.Mathlib.Omega.{arith}
use lib.IntN.{ℤ, pos, negsuc, ◌+ℤ◌}
use Rattle.signed.specs.Signs.{signed_of, above_of, below_of}
use Rattle.meter.specs.declared.energies.Energy.{Energy}
use Rattle.meter.specs.declared.samples.Powers.{Powers}
use Rattle.meter.specs.declared.samples.Sample.{Sample}
use Rattle.meter.specs.declared.given.Given.{Given}
use Rattle.meter.specs.declared.Meter.{Meter}
use Rattle.meter.specs.Samples.{in_force, sample_ok}
use Rattle.meter.specs.Energies.{plus_of, value_of}
use Rattle.meter.specs.Meters.{meter_t, meter_ok, blank_of, new_of, energy_at}
use Rattle.meter.specs.After.{next_of, meter_within_top, after_of}
use Rattle.meter.specs.Carried.{carries_for, is_accepted, added_by, SumsCarried}
use Rattle.meter.proofs.Cases.{chosen}
use Rattle.meter.proofs.Accepts.{new_blank}

-- the carry loses nothing
plus_value : (e : Energy) (x : ℕ) → value_of (plus_of e x) ≡ value_of e + x
plus_value e x = omega arith

-- each energy takes what is carried for it
next_adds : (e : ℕ) (m : Meter) (s : Sample) → value_of (energy_at e (next_of m s)) ≡ value_of (energy_at e m) + carries_for e s
next_adds zero m s = plus_value m.counters.active.positive (carries_for 0 s)
next_adds (suc zero) m s = plus_value m.counters.active.negative (carries_for 1 s)
next_adds (suc (suc zero)) m s = plus_value m.counters.reactive.positive (carries_for 2 s)
next_adds (suc (suc (suc zero))) m s = plus_value m.counters.reactive.negative (carries_for 3 s)
next_adds (suc (suc (suc (suc e)))) m s = refl

-- one sample, by its tests
picked_adds : (a b c : Bool) (e : ℕ) (m : Meter) (s : Sample) → value_of (energy_at e (chosen a b c m (next_of m s)).meter) ≡ value_of (energy_at e m) + cond (is_accepted (chosen a b c m (next_of m s)).answer) (carries_for e s) 0
picked_adds true true true e m s = next_adds e m s
picked_adds true true false e m s = omega arith
picked_adds true false c e m s = omega arith
picked_adds false b c e m s = omega arith

-- an energy grows by just what an accepted sample carries for it
pub after_adds : (e : ℕ) (m : Meter) (s : Sample) → value_of (energy_at e (after_of m s).meter) ≡ value_of (energy_at e m) + added_by e m s
unfolding after_of
after_adds e m s = picked_adds (meter_ok m) (sample_ok (meter_t m) s) (meter_within_top (next_of m s)) e m s

blank_zero : (e : ℕ) (g : Given) → value_of (energy_at e (blank_of g)) ≡ 0
blank_zero zero g = refl
blank_zero (suc zero) g = refl
blank_zero (suc (suc zero)) g = refl
blank_zero (suc (suc (suc zero))) g = refl
blank_zero (suc (suc (suc (suc e)))) g = refl

-- and is 0 in a new meter
pub new_zero : (e : ℕ) (g : Given) → value_of (energy_at e (new_of g).meter) ≡ 0
new_zero e g = ap (λ (m : Meter). value_of (energy_at e m)) (new_blank g) ∙ blank_zero e g

-- in whole numbers
module _ (p : Powers) (x : ℕ) where
  above_sum : (p.l1 +ℤ p.l2) +ℤ p.l3 ≡ pos x → (above_of (in_force p) ≡ x) × (below_of (in_force p) ≡ 0)
  unfolding in_force
  above_sum e = (ap (λ (z : ℤ). above_of (signed_of z)) e, ap (λ (z : ℤ). below_of (signed_of z)) e)

  below_sum : (p.l1 +ℤ p.l2) +ℤ p.l3 ≡ negsuc x → (above_of (in_force p) ≡ 0) × (below_of (in_force p) ≡ suc x)
  unfolding in_force
  below_sum e = (ap (λ (z : ℤ). above_of (signed_of z)) e, ap (λ (z : ℤ). below_of (signed_of z)) e)

pub sums_carried : (s : Sample) → SumsCarried s
sums_carried s = record { p_above = above_sum s.p; p_below = below_sum s.p; q_above = above_sum s.q; q_below = below_sum s.q }
