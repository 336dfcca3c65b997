-- Paper 01, "Collector": the paper's number and values for each case of an answer. Readings are numbered from 1 in the order of
-- its list, and these are the kinds of the directory's quantities.
use Rattle.std.specs.Prelude.{◌≡◌, ℕ, List, [], ◌∷◌, get_or}
use Rattle.refusal.specs.Numbers.{refusal_number, error_number, refused_by, error_by}
use Rattle.signed.specs.declared.Signed.{Signed}
use Rattle.signed.specs.Signs.{sign_word}
use Rattle.directory.specs.Quantity.{voltage, current, power, signed_power, energy_count, low, high, wrap, factor, sign, sector, frequency, kta, ktv, sequence, plain}
use Rattle.reading.specs.declared.Quantity.{Quantity}
use Rattle.reading.specs.declared.Quantity.TheVariants.{Voltage, Current, Power, SignedPower, Energy, Low, High, Wrap, Factor, Sign, Sector, Frequency, Kta, Ktv, Sequence, Plain}
use Rattle.reading.specs.declared.Answer.{Answer}
use Rattle.reading.specs.declared.Answer.TheVariants.{Reading, Error, Refused}

-- a signed value: 1 where it is negative, and its magnitude
abbrev signed_told : Signed → List ℕ
signed_told s = sign_word s.negative ∷ s.magnitude ∷ []

-- a reading in numbers: its kind's number in the paper's list, and its values
abbrev pub quantity_told : Quantity → List ℕ
quantity_told (Voltage v) = voltage ∷ v ∷ []
quantity_told (Current v) = current ∷ v ∷ []
quantity_told (Power v) = power ∷ v ∷ []
quantity_told (SignedPower s) = signed_power ∷ signed_told s
quantity_told (Energy count step wh) = energy_count ∷ count.0 ∷ step ∷ wh.0 ∷ []
quantity_told (Low v) = low ∷ v ∷ []
quantity_told (High v) = high ∷ v ∷ []
quantity_told (Wrap v) = wrap ∷ v ∷ []
quantity_told (Factor s) = factor ∷ signed_told s
quantity_told (Sign v) = sign ∷ v ∷ []
quantity_told (Sector v) = sector ∷ v ∷ []
quantity_told (Frequency v) = frequency ∷ v ∷ []
quantity_told (Kta v) = kta ∷ v ∷ []
quantity_told (Ktv v) = ktv ∷ v ∷ []
quantity_told (Sequence v) = sequence ∷ v ∷ []
quantity_told (Plain v) = plain ∷ v ∷ []

-- the number of its kind
abbrev pub kind_of : Quantity → ℕ
kind_of q = get_or (quantity_told q) 0 0

-- an answer in numbers: 0 and the reading's number and values; the meter's error code; the number of the refusal
abbrev pub told : Answer → List ℕ
told (Reading q) = 0 ∷ quantity_told q
told (Error code) = error_by (error_number code)
told (Refused reason) = refused_by (refusal_number reason)

-- STATEMENT: these numbers name one answer, so a promise of them is a promise of the answer
pub record OneAnswerEach : Type 0 where
  pub answers : (a b : Answer) → told a ≡ told b → a ≡ b
