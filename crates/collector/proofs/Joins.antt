-- A join has its tests in the order of the definition, so each refusal is due to one of them.
use mathlib.Core.Path.{◌≡◌, refl, sym, ap}
use mathlib.Core.Logic.{◌↔◌, ◌⊎◌, inl, inr}
use mathlib.Core.Bool.{Bool, true, false, ◌||◌, not, cond, false≢true}
use Prim.Native.Nat.{ℕ, ◌<◌}
use native.Mathlib.Omega.{arith}
use lib.Dec.{ltb}
use borrow.Author.Tests.{ltb-true, lt-ltb}
use Rattle.std.specs.Prelude.{Result, Ok, Err}
use Rattle.refusal.specs.declared.Refusal.{Refusal}
use Rattle.refusal.specs.declared.Refusal.TheVariants.{RatioOutOfLimits, JoinPastTop}
use Rattle.refusal.specs.Numbers.{refused_by}
use Rattle.refusal.proofs.Distinct.{case_in, number_in}
use Rattle.ratio.specs.declared.Ratios.{Ratios}
use Rattle.ratio.specs.Ratios.{ratios_ok}
use Rattle.counts.specs.declared.Count.{Count}
use Rattle.counts.specs.declared.WattHours.{WattHours}
use Rattle.counts.specs.Counting.{top_count, top_low, top_high, join_of, join_halves_of, join_told}
use Rattle.collector.specs.When.{JoinsWhen}

-- the tests: ratios within limits, count over its top
abbrev joins : Bool → Bool → WattHours → Result WattHours Refusal
joins ok over e = cond (not ok) (Err RatioOutOfLimits) (cond over (Err JoinPastTop) (Ok e))

three : (ok over : Bool) (e : WattHours) → (join_told (joins ok over e) ≡ refused_by 3) ↔ (ok ≡ false)
three true false e = (λ h. absurd (omega (arith, ap case_in h)), λ h. absurd (false≢true (sym h)))
three true true e = (λ h. absurd (omega (arith, ap number_in h)), λ h. absurd (false≢true (sym h)))
three false over e = (λ h. refl, λ h. refl)

fourteen : (ok over : Bool) (e : WattHours) → (join_told (joins ok over e) ≡ refused_by 14) ↔ ((ok ≡ true) × (over ≡ true))
fourteen true false e = (λ h. absurd (omega (arith, ap case_in h)), λ h. absurd (false≢true h.1))
fourteen true true e = (λ h. (refl, refl), λ h. refl)
fourteen false over e = (λ h. absurd (omega (arith, ap number_in h)), λ h. absurd (false≢true h.0))

only : (ok over : Bool) (e : WattHours) (n : ℕ) → join_told (joins ok over e) ≡ refused_by n → (n ≡ 3) ⊎ (n ≡ 14)
only true false e n h = absurd (omega (arith, ap case_in h))
only true true e n h = inr (sym (ap number_in h))
only false over e n h = inl (sym (ap number_in h))

-- the tests: Low over its top, High over its top
halves : (low high : Bool) (e : WattHours) (n : ℕ) → (join_told (cond (low || high) (Err JoinPastTop) (Ok e)) ≡ refused_by n) ↔ ((n ≡ 14) × ((low ≡ true) ⊎ (high ≡ true)))
halves false false e n = (λ h. absurd (omega (arith, ap case_in h)), λ h. absurd (neither h.1))
  where
    neither : ((false ≡ true) ⊎ (false ≡ true)) → ⊥
    neither (inl h) = false≢true h
    neither (inr h) = false≢true h
halves false true e n = (λ h. (sym (ap number_in h), inr refl), λ h. ap refused_by (sym h.0))
halves true high e n = (λ h. (sym (ap number_in h), inl refl), λ h. ap refused_by (sym h.0))

-- over a top, as a test and as a number
over : (low high : ℕ) → ((ltb top_low low ≡ true) ⊎ (ltb top_high high ≡ true)) ↔ ((top_low < low) ⊎ (top_high < high))
over low high = (to, from)
  where
    to : ((ltb top_low low ≡ true) ⊎ (ltb top_high high ≡ true)) → (top_low < low) ⊎ (top_high < high)
    to (inl h) = inl (ltb-true top_low low h)
    to (inr h) = inr (ltb-true top_high high h)

    from : ((top_low < low) ⊎ (top_high < high)) → (ltb top_low low ≡ true) ⊎ (ltb top_high high ≡ true)
    from (inl h) = inl (lt-ltb top_low low h)
    from (inr h) = inr (lt-ltb top_high high h)

pub joins_when : (r : Ratios) (c : Count) (wrap : ℕ) → JoinsWhen r c wrap
unfolding join_of join_halves_of
joins_when r c wrap = record {
  row_3 = three (ratios_ok r) (ltb top_count c.0) _;
  row_14 = (λ h. let t = (fourteen (ratios_ok r) (ltb top_count c.0) _).0 h in (t.0, ltb-true top_count c.0 t.1), λ h. (fourteen (ratios_ok r) (ltb top_count c.0) _).1 (h.0, lt-ltb top_count c.0 h.1));
  only = only (ratios_ok r) (ltb top_count c.0) _;
  halves = λ low high n. (λ h. let t = (halves (ltb top_low low) (ltb top_high high) _ n).0 h in (t.0, (over low high).0 t.1), λ h. (halves (ltb top_low low) (ltb top_high high) _ n).1 (h.0, (over low high).1 h.1));
}
