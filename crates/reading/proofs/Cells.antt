-- No reading is lost: each that an item's words can have comes back from its kind and its cell.
use mathlib.Core.Path.{◌≡◌, refl, sym, ap, ap₂, subst, ◌∙◌}
use mathlib.Core.Bool.{Bool, true, false, ◌&&◌, cond, false≢true}
use mathlib.Core.List.{List, [], ◌∷◌}
use Prim.Native.Nat.{ℕ, zero, suc, ◌-◌, ◌*◌, ◌/◌, ◌%◌, ◌^◌, ◌≤◌, ◌<◌}
use native.Mathlib.Nat.{mul-le-mul, lt_of_lt_of_le, pow-le-pow_right}
use native.Mathlib.Omega.{arith}
use lib.Dec.{ltb}
use lib.ListN.{get_or}
use borrow.Author.Tests.{lt-ltb, eqb-false}
use Rattle.refusal.specs.declared.Refusal.TheVariants.{ValueImpossible}
use Rattle.refusal.proofs.Distinct.{case_in}
use Rattle.signed.specs.declared.Signed.{Signed}
use Rattle.words.specs.Signed.{negative_in}
use Rattle.words.proofs.Signs.{twos_fits, signed_back}
use Rattle.directory.specs.declared.Item.{Item}
use Rattle.directory.specs.Run.{is_l}
use Rattle.directory.proofs.ByKind.{◌also◌}
use Rattle.reading.specs.declared.Quantity.{Quantity}
use Rattle.reading.specs.declared.Quantity.TheVariants.{Power, SignedPower, Factor, Plain}
use Rattle.reading.specs.declared.Answer.{Answer}
use Rattle.reading.specs.declared.Answer.TheVariants.{Reading, Error, Refused}
use Rattle.reading.specs.Told.{kind_of, told}
use Rattle.reading.specs.Readings.{thirteen, signed_in, times, unit_of, quantities_of, reading_of}
use Rattle.reading.specs.Cells.{signed_cell, cell_of, read_back}
use Rattle.reading.proofs.ByKind.{unit_most}

-- ---- a signed value that 64 bits hold: a zero has no sign

pub record Narrower (s : Signed) : Type 0 where
  pub zero_plain : s.negative ≡ true → 1 ≤ s.magnitude
  pub below : s.magnitude < 65536 ^ 4 / 2

signed_again : (s : Signed) → Narrower s → signed_in 4 (signed_cell s) ≡ s
signed_again s n =
    ap₂ (λ (b : Bool) (m : ℕ). record { negative = b; magnitude = m }) (signed_back.sign 4 s.negative s.magnitude n.below ∙ plain s.negative refl) (signed_back.magnitude 4 s.negative s.magnitude n.below)
  where
    plain : (b : Bool) → s.negative ≡ b → (b && ltb 0 s.magnitude) ≡ b
    plain false e = refl
    plain true e = lt-ltb 0 s.magnitude (omega (arith, n.zero_plain e))

-- two words hold one that is, and so does one word
held : (n v : ℕ) → v < 65536 ^ n → 65536 ^ n ≤ 65536 ^ 2 → Narrower (signed_in n v)
held n v fits few = by (negative_in n v) refl
  where
    by : (b : Bool) → negative_in n v ≡ b → Narrower (signed_in n v)
    by true e = record { zero_plain = λ h. rw e (omega (arith, fits)); below = rw e (omega (arith, few)) }
    by false e = record { zero_plain = λ h. absurd (false≢true (sym e ∙ h)); below = rw e (omega (arith, fits, few)) }

-- one word holds no more than 65536
held_small : (v : ℕ) → v < 65536 ^ 1 → (signed_in 1 v).magnitude ≤ 65536
held_small v fits = by (negative_in 1 v)
  where
    by : (b : Bool) → cond b (65536 ^ 1 - v) v ≤ 65536
    by true = omega arith
    by false = omega (arith, fits)

-- ---- each reading of an item's value

-- kind and cell give a reading back, told T; the cell is one of 64 bits, the kind one of 1 to 16
pub record Back (t : ℕ) (q : Quantity) : Type 0 where
  pub back : read_back t (kind_of q) (cell_of q) ≡ q
  pub cell : cell_of q < 2 ^ 64
  pub some : 1 ≤ kind_of q
  pub most : kind_of q ≤ 16

-- the reading in an answer, if it is one
abbrev pub quantity_in : Quantity → Answer → Quantity
quantity_in d (Reading q) = q
quantity_in d (Error code) = d
quantity_in d (Refused reason) = d

-- so is each of a list, and so what stands at any place of it
abbrev Backs : ℕ → List Quantity → Type 0
Backs t [] = Unit
Backs t (q ∷ qs) = Back t q × Backs t qs

backs_at : (t : ℕ) (qs : List Quantity) (d : Quantity) → Backs t qs → Back t d → (k : ℕ) → Back t (get_or qs k d)
backs_at t [] d h b k = b
backs_at t (q ∷ qs) d h b zero = h.0
backs_at t (q ∷ qs) d h b (suc k) = backs_at t qs d h.1 b k

-- a signed one
signed_power_back : (t : ℕ) (s : Signed) → Narrower s → Back t (SignedPower s)
signed_power_back t s n = record { back = ap SignedPower (signed_again s n); cell = twos_fits 4 s.negative s.magnitude (omega (arith, n.below)); some = omega arith; most = omega arith }

factor_back : (t : ℕ) (s : Signed) → Narrower s → Back t (Factor s)
factor_back t s n = record { back = ap Factor (signed_again s n); cell = twos_fits 4 s.negative s.magnitude (omega (arith, n.below)); some = omega arith; most = omega arith }

-- ten times what one word holds
tenfold : (s : Signed) → Narrower s → s.magnitude ≤ 65536 → Narrower (times 10 s)
tenfold s n small = record { zero_plain = λ h. omega (arith, n.zero_plain h); below = omega (arith, small) }

module _ (t : ℕ) (it : Item) (v : ℕ) (few : it.words ≤ 2) (fits : v < 65536 ^ it.words) where
  -- a value of two words at the most
  small : v < 65536 ^ 2
  small = lt_of_lt_of_le fits (pow-le-pow_right (omega arith) few)

  -- a factor, in two words or one
  factor_narrow : (b : Bool) → is_l it ≡ b → Narrower (cond b (signed_in 2 v) (times 10 (signed_in 1 v)))
  factor_narrow true e = held 2 v small (omega arith)
  factor_narrow false e =
      let one : it.words ≤ 1 = omega (arith, few, eqb-false it.words 2 e) in
      let word : v < 65536 ^ 1 = lt_of_lt_of_le fits (pow-le-pow_right (omega arith) one) in
      tenfold (signed_in 1 v) (held 1 v word (omega arith)) (held_small v word)

  -- a reading whose cell is the value itself
  plain : (q : Quantity) → read_back t (kind_of q) (cell_of q) ≡ q → cell_of q ≡ v → 1 ≤ kind_of q → kind_of q ≤ 16 → Back t q
  plain q again same some most = record { back = again; cell = omega (arith, small, same); some = some; most = most }

  power_back : Back t (Power (v * unit_of t (it.quantity % 64)))
  power_back = record { back = refl; cell = omega (arith, small, mul-le-mul {n₁ = v} {m₁ = unit_of t (it.quantity % 64)} {n₂ = v} {m₂ = 100} (omega arith) (unit_most t (it.quantity % 64))); some = omega arith; most = omega arith }

  backs : Backs t (quantities_of t it v)
  backs =
      plain _ refl refl (omega arith) (omega arith) also
      plain _ refl refl (omega arith) (omega arith) also plain _ refl refl (omega arith) (omega arith) also power_back also signed_power_back t _ (held 2 v small (omega arith)) also
      plain _ refl refl (omega arith) (omega arith) also plain _ refl refl (omega arith) (omega arith) also plain _ refl refl (omega arith) (omega arith) also plain _ refl refl (omega arith) (omega arith) also
      factor_back t _ (factor_narrow (is_l it) refl) also plain _ refl refl (omega arith) (omega arith) also plain _ refl refl (omega arith) (omega arith) also plain _ refl refl (omega arith) (omega arith) also
      plain _ refl refl (omega arith) (omega arith) also plain _ refl refl (omega arith) (omega arith) also plain _ refl refl (omega arith) (omega arith) also plain _ refl refl (omega arith) (omega arith) also
      tt

  pub reading_back : (q : Quantity) → reading_of t it v ≡ Reading q → Back t q
  unfolding reading_of
  reading_back q h = by (thirteen it v) h
    where
      by : (b : Bool) → cond b (Refused ValueImpossible) (Reading (get_or (quantities_of t it v) (it.quantity / 64) (Plain v))) ≡ Reading q → Back t q
      by true e = absurd (let z = ap case_in (ap told e) in omega (arith, z))
      by false e = subst (Back t) (ap (quantity_in q) e) (backs_at t (quantities_of t it v) (Plain v) backs (plain _ refl refl (omega arith) (omega arith)) (it.quantity / 64))
