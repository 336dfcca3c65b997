-- Quotient and remainder by 100,000,000 give the count back, those by 1,000,000 the energy; the count times the step is
-- the energy rounded down. The smallest step keeps the largest energy's wrap within a word.
use mathlib.Core.Path.{◌≡◌, ap}
use mathlib.Core.Bool.{true}
use Prim.Native.Nat.{ℕ, ◌≤◌, ◌<◌}
use native.Mathlib.Nat.{div-add-mod', div-lt_iff_lt-mul, div-mul-le_self, lt-div-mul-add, mul-le-mul_left}
use native.Mathlib.Omega.{arith}
use borrow.Author.Tests.{le-ltb}
use Rattle.refusal.proofs.Distinct.{one_reason_each, case_in, number_in}
use Rattle.ratio.specs.declared.Ratios.{Ratios}
use Rattle.ratio.specs.Ratios.{ratios_ok, t_of}
use Rattle.ratio.specs.Steps.{step_of}
use Rattle.ratio.proofs.Steps.{step_laws}
use Rattle.counts.specs.declared.WattHours.{WattHours}
use Rattle.refusal.specs.declared.Refusal.{Refusal}
use Rattle.std.specs.Prelude.{Result, Ok, Err}
use Rattle.counts.specs.Counting.{count_of, register_of, wrap_of, low_of, high_of, join_of, join_halves_of, top_wh, rounded_of, top_count, top_low, top_high, join_told, JoinSplit}

wrap : (t : ℕ) (e : WattHours) → e.0 ≤ top_wh → wrap_of t e < 65536
wrap t e h =
    let count : count_of t e < 6553600000000 = (div-lt_iff_lt-mul {k = step_of t} (omega (arith, step_laws.least t))).1
    (omega (arith, mul-le-mul_left 6553600000000 (step_laws.least t))) in
    omega arith

-- for every energy up to the top, register, wrap, Low and High fit their words and are never refused in a join
pub record CountsFit : Type 0 where
  pub register : (t : ℕ) (e : WattHours) → (register_of t e).0 ≤ top_count
  pub wrap : (t : ℕ) (e : WattHours) → e.0 ≤ top_wh → wrap_of t e < 65536
  pub low : (e : WattHours) → low_of e ≤ top_low
  pub high : (e : WattHours) → e.0 ≤ top_wh → high_of e ≤ top_high

pub counts_fit : CountsFit
counts_fit = record {
  register = λ t e. omega arith;
  wrap = wrap;
  low = λ e. omega arith;
  high = λ e h. omega arith;
}

counts : (r : Ratios) (e : WattHours) → ratios_ok r ≡ true → join_of r (register_of (t_of r) e) (wrap_of (t_of r) e) ≡ Ok (rounded_of (t_of r) e)
unfolding join_of
counts r e ok =
    simp (ok, le-ltb top_count _ (counts_fit.register (t_of r) e), div-add-mod' (count_of (t_of r) e) 100000000)

halves : (e : WattHours) → e.0 ≤ top_wh → join_halves_of (low_of e) (high_of e) ≡ Ok e
unfolding join_halves_of
halves e h =
    simp (le-ltb top_low _ (counts_fit.low e), le-ltb top_high _ (counts_fit.high e h), div-add-mod' e.0 1000000)

pub join_split : JoinSplit
join_split = record {
  counts = counts;
  halves = halves;
  above = λ t e. div-mul-le_self e.0 (step_of t);
  below = λ t e. lt-div-mul-add {a = e.0} {b = step_of t} (omega (arith, step_laws.least t));
}

-- the numbers of a join give it back
pub join_back : (a b : Result WattHours Refusal) → join_told a ≡ join_told b → a ≡ b
join_back (Ok x) (Ok y) e = ap (λ (n : ℕ). Ok (record { 0 = n })) (ap number_in e)
join_back (Ok x) (Err r) e = absurd (omega (arith, ap case_in e))
join_back (Err r) (Ok x) e = absurd (omega (arith, ap case_in e))
join_back (Err r) (Err s) e = ap Err (one_reason_each.refusals r s (ap number_in e))
