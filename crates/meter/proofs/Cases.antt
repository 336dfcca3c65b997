-- The answers to a sample, by the tests that lead to them.
use Rattle.std.specs.Prelude.{Ok, Err}
use mathlib.Core.Path.{◌≡◌, refl}
use mathlib.Core.Bool.{Bool, true, not, cond}
use Rattle.refusal.specs.declared.Refusal.TheVariants.{MeterOutOfLimits, SampleOutOfLimits, EnergyPastTop}
use Rattle.meter.specs.declared.samples.Sample.{Sample}
use Rattle.meter.specs.declared.Meter.{Meter}
use Rattle.meter.specs.declared.Answered.{Answered}
use Rattle.meter.specs.Samples.{sample_ok}
use Rattle.meter.specs.Meters.{meter_t, meter_ok, answer_with}
use Rattle.meter.specs.After.{next_of, meter_within_top, after_of}

-- what follows from the three tests of a sample, in their order: m is the meter, n the next
abbrev pub chosen : Bool → Bool → Bool → Meter → Meter → Answered
chosen a b c m n =
    cond (not a) (answer_with (Err MeterOutOfLimits) m)
    (cond (not b) (answer_with (Err SampleOutOfLimits) m)
    (cond (not c) (answer_with (Err EnergyPastTop) m)
    (answer_with (Ok tt) n)))

module _ (m : Meter) (s : Sample) where
  pub after_accepted : meter_ok m ≡ true → sample_ok (meter_t m) s ≡ true → meter_within_top (next_of m s) ≡ true → after_of m s ≡ answer_with (Ok tt) (next_of m s)
  unfolding after_of
  after_accepted h k t = rw (h, k, t) refl
