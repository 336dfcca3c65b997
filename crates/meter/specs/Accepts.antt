-- Paper 01, "Refusal numbers": 3, 4 and 1 of a new meter; 1, 5 and 6 of a sample; each given exactly when its row says. And what setup
-- words have to do with samples: nothing, but for 0x200a and request 1's figures.
use Rattle.std.specs.Prelude.{◌≡◌, ◌↔◌, ◌⊎◌, ℕ, true, false, List, ◌∷◌, ◌++◌, replicate, Ok, Err}
use Rattle.refusal.specs.declared.Refusal.{Refusal}
use Rattle.refusal.specs.Numbers.{refused_by}
use Rattle.ratio.specs.Ratios.{ratios_ok}
use Rattle.average.specs.declared.Average.{Average}
use Rattle.meter.specs.declared.samples.Sample.{Sample}
use Rattle.meter.specs.declared.given.Given.{Given}
use Rattle.meter.specs.declared.groups.Setup.{Setup}
use Rattle.meter.specs.declared.Meter.{Meter}
use Rattle.meter.specs.Samples.{sample_ok, no_sample}
use Rattle.meter.specs.Groups.{setup_ok, no_setup, code_of, with_standard}
use Rattle.meter.specs.Meters.{meter_t, meter_ok, given_of, blank_of, with_average, with_setup, answer_told, answer_with, new_of}
use Rattle.meter.specs.After.{next_of, meter_within_top, after_of}

-- ---- a new meter, by what it is given

module _ (g : Given) where
  -- its answer in numbers
  abbrev NewGives : List ℕ → Type 0
  NewGives numbers = answer_told (new_of g).answer ≡ numbers

  -- STATEMENT: a new meter is refused with 3, with 4 and with 1 exactly as their rows say, with no other number, and else accepted; the
  -- meter handed back is the blank one of what was given, and within limits exactly when it is accepted
  pub record NewAnswers : Type 0 where
    pub row_3 : NewGives (refused_by 3) ↔ (ratios_ok g.ratios ≡ false)
    pub row_4 : NewGives (refused_by 4) ↔ ((ratios_ok g.ratios ≡ true) × (g.address ≡ 0))
    pub row_1 : NewGives (refused_by 1) ↔ ((ratios_ok g.ratios ≡ true) × (g.address ≡ 0 → ⊥) × (g.second ≡ g.address))
    pub only : (n : ℕ) → NewGives (refused_by n) → (n ≡ 3) ⊎ (n ≡ 4) ⊎ (n ≡ 1)
    pub accepted :
        ((new_of g).answer ≡ Ok tt) ↔ ((ratios_ok g.ratios ≡ true) × (g.address ≡ 0 → ⊥) × (g.second ≡ g.address → ⊥))
    pub blank : (new_of g).meter ≡ blank_of g
    pub within : ((new_of g).answer ≡ Ok tt) ↔ (meter_ok (blank_of g) ≡ true)

-- STATEMENT: a record is out of limits whose own address is 0, or whose second address equals it (request 3), whatever else it holds
pub record AddressLimits (m : Meter) : Type 0 where
  pub none : m.given.address ≡ 0 → meter_ok m ≡ false
  pub equal : m.given.second ≡ m.given.address → meter_ok m ≡ false

-- ---- a sample handed to a meter

-- a meter with another setup and other figures of request 1
abbrev pub other : Meter → Setup → Average → Meter
other m setup a = with_setup (with_average m a) setup

module _ (m : Meter) (s : Sample) where
  -- its answer in numbers
  abbrev SampleGives : List ℕ → Type 0
  SampleGives numbers = answer_told (after_of m s).answer ≡ numbers

  -- STATEMENT: a sample is refused with 1, 5 and 6 exactly as their rows say, with no other number, and else accepted; a refusal
  -- changes nothing
  pub record SampleAnswers : Type 0 where
    pub row_1 : SampleGives (refused_by 1) ↔ (meter_ok m ≡ false)
    pub row_5 : SampleGives (refused_by 5) ↔ ((meter_ok m ≡ true) × (sample_ok (meter_t m) s ≡ false))
    pub row_6 :
        SampleGives (refused_by 6) ↔ ((meter_ok m ≡ true) × (sample_ok (meter_t m) s ≡ true) × (meter_within_top (next_of m s) ≡ false))
    pub only : (n : ℕ) → SampleGives (refused_by n) → (n ≡ 1) ⊎ (n ≡ 5) ⊎ (n ≡ 6)
    pub accepted :
        ((after_of m s).answer ≡ Ok tt) ↔
        ((meter_ok m ≡ true) × (sample_ok (meter_t m) s ≡ true) × (meter_within_top (next_of m s) ≡ true))
    pub refused : (reason : Refusal) → (after_of m s).answer ≡ Err reason → (after_of m s).meter ≡ m
    pub counted : (after_of m s).answer ≡ Ok tt → (after_of m s).meter ≡ next_of m s

  -- STATEMENT: setup words are kept, and of them only 0x200a, the code of the window, has an effect on a sample. With others in range
  -- and the same code, answer and measurements are the same; with any code, and whatever the figures of request 1, answer and
  -- measurements are the same but for these figures
  pub record SetupIdle (setup : Setup) (a : Average) : Type 0 where
    pub words :
        meter_ok m ≡ true → setup_ok setup ≡ true → code_of setup ≡ code_of m.setup →
        after_of (with_setup m setup) s ≡ answer_with (after_of m s).answer (with_setup (after_of m s).meter setup)
    pub code :
        meter_ok m ≡ true → meter_ok (other m setup a) ≡ true →
        after_of (other m setup a) s ≡
        answer_with (after_of m s).answer (other (after_of m s).meter setup (after_of (other m setup a) s).meter.average)

-- a new meter without transformers, under a code of the window, of which 299 seconds have passed
abbrev pub at299 : ℕ → Meter
at299 code =
    with_setup
    (with_average (blank_of (given_of 1 (record { kta = 1; ktv = 10 })))
    (record { window = record { seconds = 299; sum = 0 }; last = 0; peak = 0 }))
    (with_standard no_setup (replicate 10 0 ++ (code ∷ replicate 5 0)))

-- STATEMENT: 0x200a does have its effect: of two such meters, within limits and alike but for it, one closes its window with the next
-- sample, and the other does not
pub record CodeCounts : Type 0 where
  pub within : (meter_ok (at299 0) ≡ true) × (meter_ok (at299 1) ≡ true)
  pub closes : (after_of (at299 0) no_sample).meter.average.window.seconds ≡ 0
  pub goes_on : (after_of (at299 1) no_sample).meter.average.window.seconds ≡ 300
