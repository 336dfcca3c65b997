-- Paper 01, "The meter's record": a sample covers one second. Paper 02, request 1: it joins the open window.
use Rattle.std.specs.Prelude.{Bool, not, cond, Ok, Err}
use Rattle.refusal.specs.declared.Refusal.TheVariants.{MeterOutOfLimits, SampleOutOfLimits, EnergyPastTop}
use Rattle.average.specs.Windows.{after_second}
use Rattle.meter.specs.declared.samples.Sample.{Sample}
use Rattle.meter.specs.declared.Meter.{Meter}
use Rattle.meter.specs.declared.Answered.{Answered}
use Rattle.meter.specs.Samples.{in_force, sample_ok}
use Rattle.meter.specs.Energies.{with_powers, counters_within_top}
use Rattle.meter.specs.Groups.{code_of}
use Rattle.meter.specs.Meters.{meter_t, meter_ok, with_counters, with_latest, with_average, answer_with}

-- when accepted, it becomes the latest; 3-phase P is added to +Ea or -Ea; likewise Q; it joins the open window
abbrev pub next_of : Meter → Sample → Meter
next_of m s =
    with_average
    (with_latest (with_counters m (with_powers m.counters (in_force s.p) (in_force s.q))) s)
    (after_second (code_of m.setup) m.average (in_force s.p))

-- none of the four energies is past its top
abbrev pub meter_within_top : Meter → Bool
meter_within_top m = counters_within_top m.counters

-- a sample, the first that applies: a refusal leaves the meter as it was, else the next meter
unfoldable pub after_of : Meter → Sample → Answered
after_of m s =
    -- 1. meter record out of limits
    cond (not (meter_ok m)) (answer_with (Err MeterOutOfLimits) m)
    -- 5. sample out of limits
    (cond (not (sample_ok (meter_t m) s)) (answer_with (Err SampleOutOfLimits) m)
    -- 6. sample would carry an energy past its top
    (cond (not (meter_within_top (next_of m s))) (answer_with (Err EnergyPastTop) m)
    (answer_with (Ok tt) (next_of m s))))
