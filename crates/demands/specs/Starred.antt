-- Paper 01, "Checked examples": the starred ones, in one table. What the definitions give stands before what the paper says.
use Rattle.std.specs.Prelude.{◌≡◌, ℕ, List, [], ◌∷◌, ◌++◌, map, negsuc}
use Rattle.signed.specs.declared.Signed.{Signed}
use Rattle.signed.specs.Signs.{signed_of, sign_word}
use Rattle.crc.specs.Crc.{crc_of, on_line, sealed}
use Rattle.words.specs.declared.Order.TheVariants.{UpperFirst}
use Rattle.words.specs.Words.{sent}
use Rattle.ratio.specs.declared.Ratios.{Ratios}
use Rattle.counts.specs.declared.WattHours.{WattHours}
use Rattle.ratio.specs.Ratios.{t_of}
use Rattle.ratio.specs.Powers.{power_unit}
use Rattle.ratio.specs.Steps.{step_of}
use Rattle.counts.specs.Counting.{register_of, wrap_of, low_of, high_of}
use Rattle.registers.specs.SignedWords.{signed_word, factor_hundredths, factor_thousandths}
use Rattle.reading.specs.Told.{told}
use Rattle.collector.specs.declared.Nameplate.{Nameplate}
use Rattle.collector.specs.Collector.{collector_of}

-- an example: what the definitions give, and what the paper says
pub record Example : Type 0 where
  pub given : List ℕ
  pub says : List ℕ

-- an example from its two parts
abbrev pub gives : List ℕ → List ℕ → Example
gives given says = record { given = given; says = says }

-- the CRC of some bytes, as it goes on the line
abbrev crc_bytes : List ℕ → List ℕ
crc_bytes bytes = on_line (crc_of bytes)

-- ratios
abbrev ratios : ℕ → ℕ → Ratios
ratios kta ktv = record { kta = kta; ktv = ktv }

-- ratios, and upper word first, as paper 01 has it
abbrev upper : ℕ → ℕ → Nameplate
upper kta ktv = record { ratios = ratios kta ktv; order = UpperFirst }

-- an energy
abbrev watt_hours : ℕ → WattHours
watt_hours wh = record { 0 = wh }

-- a sign word and a signed word of a power
abbrev signs : Signed → List ℕ
signs p = sign_word p.negative ∷ signed_word p.negative p.magnitude ∷ []

-- the two words of a factor
abbrev factors : Signed → List ℕ
factors f =
    sent UpperFirst 1 (factor_hundredths f.negative f.magnitude) ++
    sent UpperFirst 2 (factor_thousandths f.negative f.magnitude)

-- the request for the first voltage (003), without its CRC
abbrev voltage_asked : List ℕ
voltage_asked = 0x01 ∷ 0x03 ∷ 0x03 ∷ 0x01 ∷ 0x00 ∷ 0x02 ∷ []

-- the answer to it, without its CRC
abbrev voltage_answer : List ℕ
voltage_answer = 0x01 ∷ 0x03 ∷ 0x04 ∷ 0x00 ∷ 0x01 ∷ 0x86 ∷ 0xA0 ∷ []

-- the starred examples, in the paper's order
unfoldable pub starred : List Example
starred =
    -- CRC: 01 03 03 01 00 04 ends 15 8D; 01 03 03 01 00 02 ends 95 8F (003)
    gives (crc_bytes (0x01 ∷ 0x03 ∷ 0x03 ∷ 0x01 ∷ 0x00 ∷ 0x04 ∷ [])) (0x15 ∷ 0x8D ∷ []) ∷
    gives (crc_bytes voltage_asked) (0x95 ∷ 0x8F ∷ []) ∷
    -- FF 03 20 00 00 10 ends 5A 18 (001)
    gives (crc_bytes (0xFF ∷ 0x03 ∷ 0x20 ∷ 0x00 ∷ 0x00 ∷ 0x10 ∷ [])) (0x5A ∷ 0x18 ∷ []) ∷
    -- 01 03 04 00 01 86 A0 ends C9 EB (003): 100,000 mV, which is reading 1, a voltage
    gives (crc_bytes voltage_answer) (0xC9 ∷ 0xEB ∷ []) ∷
    gives (told (collector_of (sealed voltage_asked) (sealed voltage_answer) (upper 1 10) 0)) (0 ∷ 1 ∷ 100000 ∷ []) ∷
    -- KTA 1, KTV 99: step 10. KTA 10, KTV 10: step 100
    gives (step_of (t_of (ratios 1 99)) ∷ []) (10 ∷ []) ∷
    gives (step_of (t_of (ratios 10 10)) ∷ []) (100 ∷ []) ∷
    -- KTA 4,999, KTV 10: hundredths; KTA 5,000, KTV 10: whole watts, of 100 hundredths
    gives (power_unit (t_of (ratios 4999 10)) ∷ []) (1 ∷ []) ∷
    gives (power_unit (t_of (ratios 5000 10)) ∷ []) (100 ∷ []) ∷
    -- step 1,000: 1,999 Wh gives register 1, Low 1,999
    gives (step_of 1000 ∷ (register_of 1000 (watt_hours 1999)).0 ∷ low_of (watt_hours 1999) ∷ []) (1000 ∷ 1 ∷ 1999 ∷ []) ∷
    -- 100,000,000,000 Wh gives register 0, wrap 1, High 100,000
    gives
    ((register_of 1000 (watt_hours 100000000000)).0 ∷ wrap_of 1000 (watt_hours 100000000000) ∷ high_of (watt_hours 100000000000) ∷ [])
    (0 ∷ 1 ∷ 100000 ∷ []) ∷
    -- P of -150 hundredths: sign 1, signed word -1; of -50: sign 1, signed word 0
    gives (signs (signed_of (negsuc 149))) (1 ∷ 0xFFFFFFFF ∷ []) ∷
    gives (signs (signed_of (negsuc 49))) (1 ∷ 0 ∷ []) ∷
    -- factor -985: FF 9E and FF FF FC 27
    gives (factors (signed_of (negsuc 984))) (0xFF ∷ 0x9E ∷ 0xFF ∷ 0xFF ∷ 0xFC ∷ 0x27 ∷ []) ∷
    []

-- STATEMENT: the definitions give what the paper says, example by example
pub record ExamplesHold : Type 0 where
  pub agree : map (λ (x : Example). x.given) starred ≡ map (λ (x : Example). x.says) starred
