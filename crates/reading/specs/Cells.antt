-- Paper 02, request 4: a reading in a cell of 64 bits, beside the number of its kind (`kind_of`: from 1 in the order of 01's
-- list), and what the two stand for.
use Rattle.std.specs.Prelude.{ℕ, List, [], ◌∷◌, get_or}
use Rattle.signed.specs.declared.Signed.{Signed}
use Rattle.words.specs.Signed.{twos}
use Rattle.reading.specs.declared.Quantity.{Quantity}
use Rattle.reading.specs.declared.Quantity.TheVariants.{Voltage, Current, Power, SignedPower, Energy, Low, High, Wrap, Factor, Sign, Sector, Frequency, Kta, Ktv, Sequence, Plain}
use Rattle.reading.specs.Readings.{signed_in, counted}

-- signed values as their two's complement, in the 64 bits of four words
abbrev pub signed_cell : Signed → ℕ
signed_cell s = twos 4 s.negative s.magnitude

-- the cell of a reading
abbrev pub cell_of : Quantity → ℕ
cell_of (Voltage v) = v
cell_of (Current v) = v
cell_of (Power v) = v
cell_of (SignedPower s) = signed_cell s
-- an energy's cell is its count
cell_of (Energy count step wh) = count.0
cell_of (Low v) = v
cell_of (High v) = v
cell_of (Wrap v) = v
cell_of (Factor s) = signed_cell s
cell_of (Sign v) = v
cell_of (Sector v) = v
cell_of (Frequency v) = v
cell_of (Kta v) = v
cell_of (Ktv v) = v
cell_of (Sequence v) = v
cell_of (Plain v) = v

-- the readings that a cell may stand for, told T, kind by kind in the order of the paper's list
abbrev pub readings_of : ℕ → ℕ → List Quantity
readings_of t cell =
    Plain cell ∷
    Voltage cell ∷ Current cell ∷ Power cell ∷ SignedPower (signed_in 4 cell) ∷
    -- the step and the energy are had again from the count
    counted t cell ∷ Low cell ∷ High cell ∷ Wrap cell ∷
    Factor (signed_in 4 cell) ∷ Sign cell ∷ Sector cell ∷ Frequency cell ∷
    Kta cell ∷ Ktv cell ∷ Sequence cell ∷ Plain cell ∷
    []

-- the reading of a kind's number and a cell
abbrev pub read_back : ℕ → ℕ → ℕ → Quantity
read_back t kind cell = get_or (readings_of t cell) kind (Plain cell)
