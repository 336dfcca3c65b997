-- Paper 01, "Steps of the registers": count, register and wrap, Low and High; and "Collector": joining.
-- A register count is not yet an energy: `Count` and `WattHours` are kept apart until a step is applied.
use Rattle.std.specs.Prelude.{◌≡◌, ℕ, ◌+◌, ◌*◌, ◌/◌, ◌%◌, ◌≤◌, ◌<◌, true, ◌||◌, not, cond, List, [], ◌∷◌, ltb, Result, Ok, Err}
use Rattle.refusal.specs.declared.Refusal.{Refusal}
use Rattle.refusal.specs.declared.Refusal.TheVariants.{RatioOutOfLimits, JoinPastTop}
use Rattle.refusal.specs.Numbers.{refusal_number, refused_by}
use Rattle.ratio.specs.declared.Ratios.{Ratios}
use Rattle.ratio.specs.Ratios.{ratios_ok, t_of}
use Rattle.ratio.specs.Steps.{step_of}
use Rattle.counts.specs.declared.Count.{Count}
use Rattle.counts.specs.declared.WattHours.{WattHours}

-- the count is Wh divided by the step, rounded down
abbrev pub count_of : ℕ → WattHours → ℕ
count_of t e = e.0 / step_of t

-- the register is the count modulo 100,000,000
abbrev pub register_of : ℕ → WattHours → Count
register_of t e = record { 0 = count_of t e % 100000000 }

-- the wrap word is the count divided by 100,000,000, rounded down
abbrev pub wrap_of : ℕ → WattHours → ℕ
wrap_of t e = count_of t e / 100000000

-- Low is Wh modulo 1,000,000
abbrev pub low_of : WattHours → ℕ
low_of e = e.0 % 1000000

-- High is Wh divided by 1,000,000, rounded down
abbrev pub high_of : WattHours → ℕ
high_of e = e.0 / 1000000

-- a step turns a count into Wh
abbrev pub energy_of : ℕ → ℕ → WattHours
energy_of t count = record { 0 = count * step_of t }

-- the top of an energy register
abbrev pub top_count : ℕ
top_count = 99999999

-- the top of Low
abbrev pub top_low : ℕ
top_low = 999999

-- the top of High
abbrev pub top_high : ℕ
top_high = 65535999

-- the top of an energy, in Wh
abbrev pub top_wh : ℕ
top_wh = 65535999999999

-- joins count and wrap, (wrap × 100,000,000 + count) × step: the first that applies
unfoldable pub join_of : Ratios → Count → ℕ → Result WattHours Refusal
join_of r c wrap =
    -- 3. KTA or KTV out of limits
    cond (not (ratios_ok r)) (Err RatioOutOfLimits)
    -- 14. count over its top
    (cond (ltb top_count c.0) (Err JoinPastTop)
    (Ok (energy_of (t_of r) (wrap * 100000000 + c.0))))

-- joins Low and High, High × 1,000,000 + Low
unfoldable pub join_halves_of : ℕ → ℕ → Result WattHours Refusal
join_halves_of low high =
    -- 14. Low or High over its top
    cond (ltb top_low low || ltb top_high high) (Err JoinPastTop)
    (Ok (record { 0 = high * 1000000 + low }))

-- a join in numbers: 0 and the Wh; the number of the refusal
abbrev pub join_told : Result WattHours Refusal → List ℕ
join_told (Ok wh) = 0 ∷ wh.0 ∷ []
join_told (Err reason) = refused_by (refusal_number reason)

-- an energy rounded down to the step
abbrev pub rounded_of : ℕ → WattHours → WattHours
rounded_of t e = energy_of t (count_of t e)

-- STATEMENT: joining register and wrap gives the energy rounded down to the step, and Low and High the energy itself
pub record JoinSplit : Type 0 where
  pub counts :
      (r : Ratios) (e : WattHours) → ratios_ok r ≡ true →
      join_of r (register_of (t_of r) e) (wrap_of (t_of r) e) ≡ Ok (rounded_of (t_of r) e)
  pub halves : (e : WattHours) → e.0 ≤ top_wh → join_halves_of (low_of e) (high_of e) ≡ Ok e
  pub above : (t : ℕ) (e : WattHours) → (rounded_of t e).0 ≤ e.0
  pub below : (t : ℕ) (e : WattHours) → e.0 < (rounded_of t e).0 + step_of t
