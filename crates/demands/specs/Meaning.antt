-- What each quantity of a meter's record is as a reading (paper 01, "Steps of the registers" and "Collector"): said of the record and its
-- ratios, with no bytes between. The kinds and, within a kind, the quantities stand in the order of the directory's `Quantity`.
use Rattle.std.specs.Prelude.{ℕ, ◌*◌, ◌/◌, ◌%◌, ◌&&◌, List, [], ◌∷◌, ◌++◌, map, ltb, get_or}
use Rattle.signed.specs.declared.Signed.{Signed}
use Rattle.signed.specs.Signs.{sign_word}
use Rattle.ratio.specs.Powers.{power_unit, power_register}
use Rattle.ratio.specs.Steps.{step_of}
use Rattle.counts.specs.Counting.{register_of, wrap_of, low_of, high_of, energy_of}
use Rattle.meter.specs.declared.energies.Energy.{Energy}
use Rattle.meter.specs.declared.Meter.{Meter}
use Rattle.meter.specs.Samples.{factor_of}
use Rattle.meter.specs.Meters.{meter_t, energies_of}
use Rattle.registers.specs.Shown.{powers_of, plain_values}
use Rattle.reading.specs.declared.Quantity.{Quantity}
use Rattle.reading.specs.declared.Quantity.TheVariants as read
use Rattle.reading.specs.Readings.{times}

-- a power in hundredths, rounded down to the unit of its register
abbrev pub rounded_power : ℕ → ℕ → ℕ
rounded_power t x = power_register t x * power_unit t

-- a signed value in units of n, cut toward zero; a zero has no sign
abbrev pub cut : ℕ → Signed → Signed
cut n s = record { negative = s.negative && ltb 0 (s.magnitude / n); magnitude = s.magnitude / n }

-- P, Q and S in hundredths, as their registers have them; S at 0x1530 in whole VA; average and peak as P (request 1)
unfoldable pub power_meanings : Meter → List Quantity
power_meanings m =
    map (λ (p : Signed). read.Power (rounded_power (meter_t m) p.magnitude)) (powers_of m) ++
    (read.Power (rounded_power (meter_t m) m.latest.s) ∷ read.Power (m.latest.s / 100 * 100) ∷
    read.Power (rounded_power (meter_t m) m.average.last) ∷ read.Power (rounded_power (meter_t m) m.average.peak) ∷
    [])

-- signed power in whole units
unfoldable pub signed_meanings : Meter → List Quantity
signed_meanings m = map (λ (p : Signed). read.SignedPower (cut 100 p)) (powers_of m)

-- energy count with step and Wh
unfoldable pub count_meanings : Meter → List Quantity
count_meanings m =
    map
    (λ (e : Energy).
    read.Energy (register_of (meter_t m) e.wh) (step_of (meter_t m)) (energy_of (meter_t m) (register_of (meter_t m) e.wh).0))
    (energies_of m)

-- Low
unfoldable pub low_meanings : Meter → List Quantity
low_meanings m = map (λ (e : Energy). read.Low (low_of e.wh)) (energies_of m)

-- High
unfoldable pub high_meanings : Meter → List Quantity
high_meanings m = map (λ (e : Energy). read.High (high_of e.wh)) (energies_of m)

-- wrap
unfoldable pub wrap_meanings : Meter → List Quantity
wrap_meanings m = map (λ (e : Energy). read.Wrap (wrap_of (meter_t m) e.wh)) (energies_of m)

-- factor in thousandths: from the register in hundredths, and from the one in thousandths
unfoldable pub factor_meanings : Signed → List Quantity
factor_meanings f = read.Factor (times 10 (cut 10 f)) ∷ read.Factor f ∷ []

-- sign
unfoldable pub sign_meanings : Meter → List Quantity
sign_meanings m = map (λ (p : Signed). read.Sign (sign_word p.negative)) (powers_of m)

-- kind by kind in the order of paper 01's list of readings, from kind 1 on
abbrev pub meanings : Meter → List (List Quantity)
meanings m =
    [] ∷
    map (λ (v : ℕ). read.Voltage v) m.latest.voltages ∷ map (λ (v : ℕ). read.Current v) m.latest.currents ∷
    power_meanings m ∷ signed_meanings m ∷
    count_meanings m ∷ low_meanings m ∷ high_meanings m ∷ wrap_meanings m ∷
    factor_meanings (factor_of m.latest.factor) ∷ sign_meanings m ∷
    (read.Sector m.latest.sector ∷ []) ∷ (read.Frequency m.latest.frequency ∷ []) ∷
    (read.Kta m.given.ratios.kta ∷ []) ∷ (read.Ktv m.given.ratios.ktv ∷ []) ∷ (read.Sequence m.latest.sequence ∷ []) ∷
    map (λ (v : ℕ). read.Plain v) (plain_values m) ∷
    []

-- the reading of a quantity
unfoldable pub meaning_of : Meter → ℕ → Quantity
meaning_of m q = get_or (get_or (meanings m) (q / 64) []) (q % 64) (read.Plain 0)
