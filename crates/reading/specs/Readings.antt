-- Paper 01, "Collector": what the words of an item read as, kind by kind in the order of its list, in its units; and refusal 13, value
-- impossible, exactly as its row lists.
use Rattle.std.specs.Prelude.{ℕ, ◌*◌, ◌/◌, ◌%◌, Bool, false, ◌&&◌, ◌||◌, not, cond, List, [], ◌∷◌, leb, ltb, eqb, get_or}
use Rattle.refusal.specs.declared.Refusal.TheVariants.{ValueImpossible}
use Rattle.signed.specs.declared.Signed.{Signed}
use Rattle.words.specs.Signed.{negative_in, magnitude_in}
use Rattle.ratio.specs.Ratios.{kta_ok, ktv_ok}
use Rattle.ratio.specs.Powers.{power_unit}
use Rattle.ratio.specs.Steps.{step_of}
use Rattle.counts.specs.Counting.{top_count, top_low, top_high, energy_of}
use Rattle.directory.specs.declared.Item.{Item}
use Rattle.directory.specs.Item.{is_b}
use Rattle.directory.specs.Quantity.{energy_count, low, high, factor, sign, sector, kta, ktv, sequence, whole_s}
use Rattle.directory.specs.Run.{is_l}
use Rattle.reading.specs.declared.Quantity.{Quantity}
use Rattle.reading.specs.declared.Quantity.TheVariants.{Voltage, Current, Power, SignedPower, Energy, Low, High, Wrap, Factor, Sign, Sector, Frequency, Kta, Ktv, Sequence, Plain}
use Rattle.reading.specs.declared.Answer.{Answer}
use Rattle.reading.specs.declared.Answer.TheVariants.{Reading, Refused}

-- an item shows a quantity of this kind
abbrev pub is_kind : ℕ → Item → Bool
is_kind k it = eqb (it.quantity / 64) k

-- one of the tests holds
unfoldable pub one_of : List Bool → Bool
one_of [] = false
one_of (test ∷ tests) = test || one_of tests

-- the row, in its words
unfoldable pub thirteen : Item → ℕ → Bool
thirteen it v = one_of (
    -- B with upper byte set; sign over 1; sector over 2; sequence not 1 or 2
    (is_b it && leb 256 v) ∷
    (is_kind sign it && ltb 1 v) ∷
    (is_kind sector it && ltb 2 v) ∷
    (is_kind sequence it && not (eqb v 1 || eqb v 2)) ∷
    -- energy register over 99,999,999; Low over 999,999; High over 65,535,999
    (is_kind energy_count it && ltb top_count v) ∷
    (is_kind low it && ltb top_low v) ∷
    (is_kind high it && ltb top_high v) ∷
    -- factor beyond 100 hundredths (one word) or 1,000 thousandths (two) in magnitude
    (is_kind factor it && cond (is_l it) (ltb 1000 (magnitude_in 2 v)) (ltb 100 (magnitude_in 1 v))) ∷
    -- KTA or KTV item out of limits
    (is_kind kta it && not (kta_ok v)) ∷
    (is_kind ktv it && not (ktv_ok v)) ∷
    [])

-- two's complement in n words, back to signed
abbrev pub signed_in : ℕ → ℕ → Signed
signed_in n v = record { negative = negative_in n v; magnitude = magnitude_in n v }

-- n times a signed value
abbrev pub times : ℕ → Signed → Signed
times n s = record { negative = s.negative; magnitude = s.magnitude * n }

-- a P, Q or S register in whole units is read times 100, as is S at 0x1530, as power in hundredths; average and peak, in the P
-- register's unit (request 1), go by the same
abbrev pub unit_of : ℕ → ℕ → ℕ
unit_of t which = cond (eqb which whole_s) 100 (power_unit t)

-- energy count with step and Wh
abbrev pub counted : ℕ → ℕ → Quantity
counted t v = Energy (record { 0 = v }) (step_of t) (energy_of t v)

-- the reading of a value, kind by kind in the order of the paper's list
abbrev pub quantities_of : ℕ → Item → ℕ → List Quantity
quantities_of t it v =
    Plain v ∷
    -- voltage, current, power in hundredths, signed power in whole units
    Voltage v ∷ Current v ∷ Power (v * unit_of t (it.quantity % 64)) ∷ SignedPower (signed_in 2 v) ∷
    -- energy count with step and Wh, Low, High, wrap
    counted t v ∷ Low v ∷ High v ∷ Wrap v ∷
    -- factor in thousandths: in hundredths (one word) it is read times 10; sign, sector, frequency
    Factor (cond (is_l it) (signed_in 2 v) (times 10 (signed_in 1 v))) ∷ Sign v ∷ Sector v ∷ Frequency v ∷
    -- KTA, KTV, sequence, plain word
    Kta v ∷ Ktv v ∷ Sequence v ∷ Plain v ∷
    []

-- 13: value impossible; else the reading of its kind
unfoldable pub reading_of : ℕ → Item → ℕ → Answer
reading_of t it v =
    cond (thirteen it v) (Refused ValueImpossible)
    (Reading (get_or (quantities_of t it v) (it.quantity / 64) (Plain v)))
