-- No two values of an L read as the same: from each reading its value is had again.
use mathlib.Core.Path.{◌≡◌, refl, sym, ap, ◌∙◌}
use mathlib.Core.Bool.{Bool, true, false, cond}
use mathlib.Core.List.{List, [], ◌∷◌}
use Prim.Native.Nat.{ℕ, zero, suc, ◌-◌, ◌/◌, ◌%◌, ◌^◌, ◌≤◌, ◌<◌}
use native.Mathlib.Nat.{mod-eq_of_lt, mul-div_cancel}
use native.Mathlib.Omega.{arith}
use lib.Dec.{eqb}
use lib.ListN.{get_or}
use Rattle.refusal.specs.declared.Refusal.TheVariants.{ValueImpossible}
use Rattle.refusal.proofs.Distinct.{case_in}
use Rattle.words.specs.Signed.{twos, negative_in, magnitude_in}
use Rattle.ratio.specs.Powers.{power_unit}
use Rattle.ratio.proofs.Powers.{power_laws}
use Rattle.directory.specs.declared.Item.{Item}
use Rattle.directory.specs.Run.{is_l}
use Rattle.directory.proofs.ByKind.{◌also◌}
use Rattle.reading.specs.declared.Quantity.{Quantity}
use Rattle.reading.specs.declared.Quantity.TheVariants.{Voltage, Current, Power, SignedPower, Energy, Low, High, Wrap, Factor, Sign, Sector, Frequency, Kta, Ktv, Sequence, Plain}
use Rattle.reading.specs.declared.Answer.{Answer}
use Rattle.reading.specs.declared.Answer.TheVariants.{Reading, Refused}
use Rattle.reading.specs.Told.{told}
use Rattle.reading.specs.Readings.{thirteen, unit_of, quantities_of, reading_of}
use Rattle.reading.proofs.Cells.{quantity_in}

-- the value of a reading, of a register of this unit
abbrev value_of : ℕ → Quantity → ℕ
value_of unit (Voltage v) = v
value_of unit (Current v) = v
value_of unit (Power v) = v / unit
value_of unit (SignedPower s) = twos 2 s.negative s.magnitude
value_of unit (Energy count step wh) = count.0
value_of unit (Low v) = v
value_of unit (High v) = v
value_of unit (Wrap v) = v
value_of unit (Factor s) = twos 2 s.negative s.magnitude
value_of unit (Sign v) = v
value_of unit (Sector v) = v
value_of unit (Frequency v) = v
value_of unit (Kta v) = v
value_of unit (Ktv v) = v
value_of unit (Sequence v) = v
value_of unit (Plain v) = v

-- what two words hold, from sign and magnitude
signed_value : (v : ℕ) → v < 65536 ^ 2 → twos 2 (negative_in 2 v) (magnitude_in 2 v) ≡ v
unfolding twos
signed_value v h = by (negative_in 2 v) refl
  where
    by : (b : Bool) → negative_in 2 v ≡ b → cond b ((65536 ^ 2 - cond b (65536 ^ 2 - v) v) % 65536 ^ 2) (cond b (65536 ^ 2 - v) v) ≡ v
    by true e = ap (λ (x : ℕ). x % 65536 ^ 2) (omega (arith, h)) ∙ mod-eq_of_lt h
    by false e = refl

-- a unit is 1 at the least
unit_least : (t which : ℕ) → 1 ≤ unit_of t which
unit_least t which = by (eqb which 9)
  where
    by : (b : Bool) → 1 ≤ cond b 100 (power_unit t)
    by true = omega arith
    by false = power_laws.some t

abbrev Values : ℕ → ℕ → List Quantity → Type 0
Values unit v [] = Unit
Values unit v (q ∷ qs) = (value_of unit q ≡ v) × Values unit v qs

values_at : (unit v : ℕ) (qs : List Quantity) (d : Quantity) → Values unit v qs → value_of unit d ≡ v → (k : ℕ) → value_of unit (get_or qs k d) ≡ v
values_at unit v [] d h e k = e
values_at unit v (q ∷ qs) d h e zero = h.0
values_at unit v (q ∷ qs) d h e (suc k) = values_at unit v qs d h.1 e k

module _ (t : ℕ) (it : Item) (long : is_l it ≡ true) where
  abbrev unit : ℕ
  unit = unit_of t (it.quantity % 64)

  unit_some : 1 ≤ unit
  unit_some = unit_least t (it.quantity % 64)

  values : (v : ℕ) → v < 65536 ^ 2 → Values unit v (quantities_of t it v)
  values v h =
      refl also
      refl also refl also mul-div_cancel v unit_some also signed_value v h also
      refl also refl also refl also refl also
      rw long (signed_value v h) also refl also refl also refl also
      refl also refl also refl also refl also
      tt

  value_of_lem : (v : ℕ) → v < 65536 ^ 2 → (q : Quantity) → reading_of t it v ≡ Reading q → value_of unit q ≡ v
  unfolding reading_of
  value_of_lem v h q = by (thirteen it v)
    where
      by : (b : Bool) → cond b (Refused ValueImpossible) (Reading (get_or (quantities_of t it v) (it.quantity / 64) (Plain v))) ≡ Reading q → value_of unit q ≡ v
      by true e = absurd (let z = ap (λ (x : Answer). case_in (told x)) e in omega (arith, z))
      by false e =
          ap (λ (x : Answer). value_of unit (quantity_in q x)) (sym e)
          ∙ values_at unit v (quantities_of t it v) (Plain v) (values v h) refl (it.quantity / 64)

  pub apart : (v w : ℕ) → v < 65536 ^ 2 → w < 65536 ^ 2 → (q : Quantity) → reading_of t it v ≡ Reading q → reading_of t it w ≡ Reading q → v ≡ w
  apart v w hv hw q e f = sym (value_of_lem v hv q e) ∙ value_of_lem w hw q f
