-- Paper 01, "Steps of the registers" and "The directory": what a meter shows of each quantity. A quantity is 64 × kind +
-- which; the kinds and, within a kind, the quantities stand in the order of the directory's `Quantity`.
use Rattle.std.specs.Prelude.{ℕ, ◌/◌, ◌%◌, false, List, [], ◌∷◌, ◌++◌, map, get_or}
use Rattle.signed.specs.declared.Signed.{Signed}
use Rattle.signed.specs.Signs.{signed_of, sign_word}
use Rattle.ratio.specs.Powers.{power_register}
use Rattle.counts.specs.Counting.{register_of, wrap_of, low_of, high_of}
use Rattle.average.specs.Windows.{minutes_of}
use Rattle.meter.specs.declared.energies.Energy.{Energy}
use Rattle.meter.specs.declared.Meter.{Meter}
use Rattle.meter.specs.Samples.{in_force, factor_of}
use Rattle.meter.specs.Meters.{meter_t, energies_of}
use Rattle.registers.specs.SignedWords.{signed_word, factor_hundredths, factor_thousandths}

-- the signed powers of the latest sample: 3-phase P and Q, then P and Q phase by phase
abbrev pub powers_of : Meter → List Signed
powers_of m =
    in_force m.latest.p ∷ in_force m.latest.q ∷
    signed_of m.latest.p.l1 ∷ signed_of m.latest.p.l2 ∷ signed_of m.latest.p.l3 ∷
    signed_of m.latest.q.l1 ∷ signed_of m.latest.q.l2 ∷ signed_of m.latest.q.l3 ∷
    []

-- the power of a number, counted from 0 in that order; 0 beyond
unfoldable pub power_at : Meter → ℕ → Signed
power_at m which = get_or (powers_of m) which (record { negative = false; magnitude = 0 })

-- P, Q, S registers hold a magnitude; S at 0x1530 in whole VA; average and peak use the P register's unit (request 1)
unfoldable pub power_values : Meter → List ℕ
power_values m =
    map (λ (p : Signed). power_register (meter_t m) p.magnitude) (powers_of m) ++
    (power_register (meter_t m) m.latest.s ∷ m.latest.s / 100 ∷
    power_register (meter_t m) m.average.last ∷ power_register (meter_t m) m.average.peak ∷
    [])

-- signed words are whole W or var, cut toward zero
unfoldable pub signed_word_values : Meter → List ℕ
signed_word_values m = map (λ (p : Signed). signed_word p.negative p.magnitude) (powers_of m)

-- sign words: 0 for zero or more, 1 for negative
unfoldable pub sign_values : Meter → List ℕ
sign_values m = map (λ (p : Signed). sign_word p.negative) (powers_of m)

-- the register is the count modulo 100,000,000
unfoldable pub count_values : Meter → List ℕ
count_values m = map (λ (e : Energy). (register_of (meter_t m) e.wh).0) (energies_of m)

-- Low is Wh modulo 1,000,000
unfoldable pub low_values : Meter → List ℕ
low_values m = map (λ (e : Energy). low_of e.wh) (energies_of m)

-- High is Wh divided by 1,000,000, rounded down
unfoldable pub high_values : Meter → List ℕ
high_values m = map (λ (e : Energy). high_of e.wh) (energies_of m)

-- the wrap word is the count divided by 100,000,000, rounded down
unfoldable pub wrap_values : Meter → List ℕ
wrap_values m = map (λ (e : Energy). wrap_of (meter_t m) e.wh) (energies_of m)

-- power factor in hundredths, thousandths cut toward zero, and in thousandths
unfoldable pub factor_values : Signed → List ℕ
factor_values f = factor_hundredths f.negative f.magnitude ∷ factor_thousandths f.negative f.magnitude ∷ []

-- plain words: zeros, the identifiers 0x11 and 0x1114, the minutes of the open window (request 1), the setup words
unfoldable pub plain_values : Meter → List ℕ
plain_values m = 0 ∷ 0x11 ∷ 0x1114 ∷ minutes_of m.average ∷ (m.setup.standard ++ m.setup.output)

-- what a meter shows, kind by kind in the order of paper 01's list of readings, from kind 1 on
abbrev pub kinds_shown : Meter → List (List ℕ)
kinds_shown m =
    [] ∷
    m.latest.voltages ∷ m.latest.currents ∷ power_values m ∷ signed_word_values m ∷
    count_values m ∷ low_values m ∷ high_values m ∷ wrap_values m ∷
    factor_values (factor_of m.latest.factor) ∷ sign_values m ∷ (m.latest.sector ∷ []) ∷ (m.latest.frequency ∷ []) ∷
    (m.given.ratios.kta ∷ []) ∷ (m.given.ratios.ktv ∷ []) ∷ (m.latest.sequence ∷ []) ∷ plain_values m ∷
    []

-- what it shows of a quantity; 0 where the number is none
unfoldable pub shown_of : Meter → ℕ → ℕ
shown_of m q = get_or (get_or (kinds_shown m) (q / 64) []) (q % 64) 0
