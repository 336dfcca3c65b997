-- Paper 01, "The meter's record": the limits of a record, and a new meter. Paper 02: the record gains
-- the figures of `average` (request 1), a second address (request 3) and an order of words (request 5).
use Rattle.std.specs.Prelude.{ℕ, List, [], ◌∷◌, Bool, ◌&&◌, not, cond, leb, eqb, get_or, Result, Ok, Err, ⊤}
use Rattle.refusal.specs.declared.Refusal.{Refusal}
use Rattle.refusal.specs.declared.Refusal.TheVariants.{MeterOutOfLimits, RatioOutOfLimits, OwnAddressZero}
use Rattle.refusal.specs.Numbers.{refusal_number, refused_by}
use Rattle.words.specs.declared.Order.TheVariants.{LowerFirst}
use Rattle.ratio.specs.declared.Ratios.{Ratios}
use Rattle.ratio.specs.Ratios.{ratios_ok, t_of}
use Rattle.average.specs.declared.Average.{Average}
use Rattle.average.specs.Windows.{no_average, recoded_by, average_ok}
use Rattle.meter.specs.declared.energies.Energy.{Energy}
use Rattle.meter.specs.declared.energies.Counters.{Counters}
use Rattle.meter.specs.declared.samples.Sample.{Sample}
use Rattle.meter.specs.declared.given.Given.{Given}
use Rattle.meter.specs.declared.groups.Setup.{Setup}
use Rattle.meter.specs.declared.Meter.{Meter}
use Rattle.meter.specs.declared.Answered.{Answered}
use Rattle.meter.specs.Energies.{no_energy, counters_ok, no_counters}
use Rattle.meter.specs.Samples.{sample_ok, no_sample}
use Rattle.meter.specs.Groups.{setup_ok, no_setup, code_of}

-- T of a meter
abbrev pub meter_t : Meter → ℕ
meter_t m = t_of m.given.ratios

-- own address 1 to 255 (it is a byte); a second, 0 for none, that is not equal to it (request 3); ratios; any order (request 5)
abbrev pub given_ok : Given → Bool
given_ok g = leb 1 g.address && not (eqb g.second g.address) && ratios_ok g.ratios

-- a record is within limits: addresses and ratios, four energies, the latest sample at the record's T, setup groups, and
-- request 1's figures at that T and in windows of the record's code
unfoldable pub meter_ok : Meter → Bool
meter_ok m =
    given_ok m.given &&
    counters_ok m.counters &&
    sample_ok (meter_t m) m.latest &&
    average_ok (meter_t m) (code_of m.setup) m.average &&
    setup_ok m.setup

-- what a new meter is given that names neither: no second address, and lower word first
abbrev pub given_of : ℕ → Ratios → Given
given_of address ratios = record { address = address; second = 0; ratios = ratios; order = LowerFirst }

-- counters and remainders 0, setup words 0, sample 0 except sequence 1; request 1's figures 0
abbrev pub blank_of : Given → Meter
blank_of given =
    record {
      given = given;
      counters = no_counters;
      latest = no_sample;
      average = no_average;
      setup = no_setup;
    }

-- the four energies, in the paper's order: +Ea, -Ea, +Er, -Er
abbrev pub energies_of : Meter → List Energy
energies_of m =
    m.counters.active.positive ∷ m.counters.active.negative ∷
    m.counters.reactive.positive ∷ m.counters.reactive.negative ∷
    []

-- the energy of number e, counted from 0 in that order
abbrev pub energy_at : ℕ → Meter → Energy
energy_at e m = get_or (energies_of m) e no_energy

-- a meter with other counters
abbrev pub with_counters : Meter → Counters → Meter
with_counters m counters =
    record { given = m.given; counters = counters; latest = m.latest; average = m.average; setup = m.setup }

-- a meter with another latest sample
abbrev pub with_latest : Meter → Sample → Meter
with_latest m sample =
    record { given = m.given; counters = m.counters; latest = sample; average = m.average; setup = m.setup }

-- a meter with other figures of request 1
abbrev pub with_average : Meter → Average → Meter
with_average m average =
    record { given = m.given; counters = m.counters; latest = m.latest; average = average; setup = m.setup }

-- a meter with another setup
abbrev pub with_setup : Meter → Setup → Meter
with_setup m setup =
    record { given = m.given; counters = m.counters; latest = m.latest; average = m.average; setup = setup }

-- a meter in which another setup is stored: one that changes the code at 0x200a also opens a new window
abbrev pub set_up_of : Meter → Setup → Meter
set_up_of m setup = with_setup (with_average m (recoded_by (code_of m.setup) (code_of setup) m.average)) setup

-- an answer in numbers: 0 for accepted; the number of the refusal
abbrev pub answer_told : Result ⊤ Refusal → List ℕ
answer_told (Ok done) = 0 ∷ []
answer_told (Err reason) = refused_by (refusal_number reason)

-- an answer, and the record beside it
abbrev pub answer_with : Result ⊤ Refusal → Meter → Answered
answer_with answer m = record { answer = answer; meter = m }

-- a new meter, the first that applies; one that is refused is handed back out of limits, so that every later call refuses it
unfoldable pub new_of : Given → Answered
new_of given =
    -- 3. KTA or KTV out of limits
    cond (not (ratios_ok given.ratios)) (answer_with (Err RatioOutOfLimits) (blank_of given))
    -- 4. own address 0
    (cond (eqb given.address 0) (answer_with (Err OwnAddressZero) (blank_of given))
    -- 1. equal addresses (request 3)
    (cond (eqb given.second given.address) (answer_with (Err MeterOutOfLimits) (blank_of given))
    (answer_with (Ok tt) (blank_of given))))
