-- Paper 01, "The meter's record": the four energies, and what a second of a power adds to one.
use Rattle.std.specs.Prelude.{◌≡◌, ℕ, ◌+◌, ◌*◌, ◌/◌, ◌%◌, Bool, true, ◌&&◌, leb}
use Rattle.signed.specs.declared.Signed.{Signed}
use Rattle.signed.specs.Signs.{above_of, below_of}
use Rattle.counts.specs.Counting.{top_wh}
use Rattle.meter.specs.declared.energies.Energy.{Energy}
use Rattle.meter.specs.declared.energies.Energies.{Energies}
use Rattle.meter.specs.declared.energies.Counters.{Counters}

-- whole Wh, 0 to 65,535,999,999,999, with a remainder of 0 to 359,999
abbrev pub energy_ok : Energy → Bool
energy_ok e = leb e.wh.0 top_wh && leb e.remainder 359999

-- the energies of both directions are within these limits
abbrev pub energies_ok : Energies → Bool
energies_ok es = energy_ok es.positive && energy_ok es.negative

-- all four are
abbrev pub counters_ok : Counters → Bool
counters_ok c = energies_ok c.active && energies_ok c.reactive

-- an energy whose counter and remainder are 0
abbrev pub no_energy : Energy
no_energy = record { wh = record { 0 = 0 }; remainder = 0 }

-- the energies of both directions, 0
abbrev pub no_energies : Energies
no_energies = record { positive = no_energy; negative = no_energy }

-- counters and remainders 0
abbrev pub no_counters : Counters
no_counters = record { active = no_energies; reactive = no_energies }

-- an energy in hundredths of a watt-second: 1 Wh is 360,000 of these
abbrev pub value_of : Energy → ℕ
value_of e = e.wh.0 * 360000 + e.remainder

-- a power for one second: whole 360,000s pass from remainder to Wh
abbrev pub plus_of : Energy → ℕ → Energy
plus_of e power =
    record { wh = record { 0 = e.wh.0 + (e.remainder + power) / 360000 }; remainder = (e.remainder + power) % 360000 }

-- a positive power is added to the positive energy, the magnitude of a negative one to the negative energy, zero to neither
abbrev pub with_power : Energies → Signed → Energies
with_power es power = record { positive = plus_of es.positive (above_of power); negative = plus_of es.negative (below_of power) }

-- 3-phase P is added to +Ea or -Ea; likewise Q
abbrev pub with_powers : Counters → Signed → Signed → Counters
with_powers c p q = record { active = with_power c.active p; reactive = with_power c.reactive q }

-- neither energy is past its top
abbrev pub within_top : Energies → Bool
within_top es = leb es.positive.wh.0 top_wh && leb es.negative.wh.0 top_wh

-- none of the four energies is past its top
abbrev pub counters_within_top : Counters → Bool
counters_within_top c = within_top c.active && within_top c.reactive

-- STATEMENT: zero to neither: an energy within limits with 0 added is itself
pub record ZeroToNeither : Type 0 where
  pub same : (e : Energy) → energy_ok e ≡ true → plus_of e 0 ≡ e
