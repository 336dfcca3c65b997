-- A new meter's energies are far below their tops for 300 seconds, so that every one is accepted; each joins the window, and the last fills it.
use Rattle.std.specs.Prelude.{Ok}
use mathlib.Core.Path.{◌≡◌, refl, ap, ◌∙◌}
use mathlib.Core.Bool.{Bool, true, false, ◌&&◌, cond}
use mathlib.Core.List.{[], ◌∷◌}
use Prim.Native.Nat.{ℕ, zero, suc, ◌+◌, ◌*◌, ◌≤◌, ◌<◌, zero-le}
use native.Mathlib.Nat.{le_trans, suc-mul}
use native.Mathlib.Omega.{arith}
use lib.Dec.{T, leb}
use lib.IntN.{pos}
use lib.ListN.{length, replicate, length-replicate}
use borrow.Author.Tests.{le-leb, lt-leb, ne_eqb}
use Rattle.signed.specs.Signs.{above_of}
use Rattle.signed.proofs.Sums.{above_le, below_le}
use Rattle.ratio.specs.Ratios.{t_of}
use Rattle.ratio.specs.Powers.{top_power, power_limit}
use Rattle.ratio.proofs.Powers.{power_laws}
use Rattle.counts.specs.Counting.{top_wh}
use Rattle.average.specs.Windows.{coded_minutes}
use Rattle.directory.specs.Views.{View, passes}
use Rattle.reading.specs.declared.Quantity.TheVariants as read
use Rattle.reading.specs.declared.Answer.TheVariants.{Reading}
use Rattle.meter.specs.declared.samples.Sample.{Sample}
use Rattle.meter.specs.declared.energies.Energy.{Energy}
use Rattle.meter.specs.declared.given.Given.{Given}
use Rattle.meter.specs.declared.Meter.{Meter}
use Rattle.meter.specs.Samples.{in_force, sample_ok, sample_of}
use Rattle.meter.specs.Energies.{plus_of, value_of}
use Rattle.meter.specs.Groups.{code_of}
use Rattle.meter.specs.Meters.{meter_t, meter_ok, new_of, energy_at}
use Rattle.meter.specs.After.{next_of, meter_within_top, after_of}
use Rattle.meter.specs.Carried.{carries_for, is_accepted, added_by}
use Rattle.meter.proofs.Parts.{in_force_most, sample_parts}
use Rattle.meter.proofs.Accepts.{made_within, new_blank, sample_answers, sample_within}
use Rattle.meter.proofs.Sums.{after_adds, new_zero}
use Rattle.demands.specs.Meaning.{rounded_power}
use Rattle.demands.specs.Histories.{Event, after_event}
use Rattle.demands.specs.Averages.{Layout, laid_in, total, average_of, largest, last_in, peak_in, laid_by, laid_all, steady, WindowFills, AveragesAlways}
use Rattle.demands.proofs.Histories.{sample_unseen}
use Rattle.demands.proofs.Averages.{averages_read}

-- ---- a sample is accepted while the energies are small

-- what a sample within limits carries for an energy is at most the larger power limit
carries_most : (e t : ℕ) (s : Sample) → sample_ok t s ≡ true → carries_for e s ≤ top_power
carries_most e t s h = by e
  where
    p : (in_force s.p).magnitude ≤ top_power
    p = le_trans (in_force_most t s.p (sample_parts t s h).p) (power_laws.limit t)

    q : (in_force s.q).magnitude ≤ top_power
    q = le_trans (in_force_most t s.q (sample_parts t s h).q) (power_laws.limit t)

    by : (e : ℕ) → carries_for e s ≤ top_power
    by zero = above_le (in_force s.p) p
    by (suc zero) = below_le (in_force s.p) p
    by (suc (suc zero)) = above_le (in_force s.q) q
    by (suc (suc (suc zero))) = below_le (in_force s.q) q
    by (suc (suc (suc (suc e)))) = zero-le

plus_top : (e : Energy) (x : ℕ) → value_of e + x ≤ top_wh * 360000 → leb (plus_of e x).wh.0 top_wh ≡ true
plus_top e x h = le-leb (plus_of e x).wh.0 top_wh (omega (arith, h))

top_room : (m : Meter) (s : Sample) → ((e : ℕ) → value_of (energy_at e m) + carries_for e s ≤ top_wh * 360000) → meter_within_top (next_of m s) ≡ true
top_room m s room =
    let c = m.counters in
    λ i.
    (plus_top c.active.positive (carries_for 0 s) (room 0) i && plus_top c.active.negative (carries_for 1 s) (room 1) i)
    && (plus_top c.reactive.positive (carries_for 2 s) (room 2) i && plus_top c.reactive.negative (carries_for 3 s) (room 3) i)

-- a meter k samples old: each energy is at most k times the limit, and the window's code is still 0
record Young (t k : ℕ) (m : Meter) : Type 0 where
  pub within : meter_ok m ≡ true
  pub ratio : meter_t m ≡ t
  pub code : code_of m.setup ≡ 0
  pub small : (e : ℕ) → value_of (energy_at e m) ≤ k * top_power

module _ (t : ℕ) (s : Sample) (ok : sample_ok t s ≡ true) where
  taken : (k : ℕ) (m : Meter) → k < 300 → Young t k m → (after_of m s).answer ≡ Ok tt
  taken k m few y =
      (sample_answers m s).accepted.1
      (y.within, ap (λ (n : ℕ). sample_ok n s) y.ratio ∙ ok, top_room m s (λ e. omega (arith, y.small e, carries_most e t s ok, few)))

  added_most : (e : ℕ) (m : Meter) → added_by e m s ≤ top_power
  added_most e m = by (is_accepted (after_of m s).answer)
    where
      by : (b : Bool) → cond b (carries_for e s) 0 ≤ top_power
      by true = carries_most e t s ok
      by false = zero-le

  older : (k : ℕ) (m : Meter) → Young t k m → Young t (suc k) (after_of m s).meter
  older k m y = record {
    within = sample_within m s y.within;
    ratio = sample_unseen (λ (m : Meter). meter_t m) (λ m s. refl) m s ∙ y.ratio;
    code = sample_unseen (λ (m : Meter). code_of m.setup) (λ m s. refl) m s ∙ y.code;
    small = λ e. omega (arith, after_adds e m s, added_most e m, y.small e);
  }

young : (g : Given) → (new_of g).answer ≡ Ok tt → Young (t_of g.ratios) 0 (new_of g).meter
young g made = record {
  within = made_within g made;
  ratio = ap (λ (m : Meter). meter_t m) (new_blank g);
  code = ap (λ (m : Meter). code_of m.setup) (new_blank g);
  small = λ e. omega (arith, new_zero e g);
}

-- ---- a steady load

module _ (t x : ℕ) (most : x ≤ power_limit t) where
  abbrev second : Sample
  second = sample_of (record { l1 = pos x; l2 = pos 0; l3 = pos 0 })

  load_ok : sample_ok t second ≡ true
  unfolding sample_ok
  load_ok =
      let whole : x + 0 + 0 ≤ power_limit t = omega (arith, most) in
      simp (le-leb x (power_limit t) most, le-leb 0 (power_limit t) zero-le, le-leb (x + 0 + 0) (power_limit t) whole)

  load_p : above_of (in_force second.p) ≡ x
  unfolding in_force
  load_p = omega arith

  -- k seconds of it, all in the window that is begun
  abbrev begun_by : ℕ → Layout
  begun_by k = record { full = []; begun = replicate k x }

  long : (k : ℕ) → length (x ∷ replicate k x) ≡ suc k
  long k = ap suc (length-replicate k x)

  -- one second more, of fewer than 300 and of just these
  not_full : (k : ℕ) → suc k < 300 → laid_in 300 x (begun_by k) ≡ begun_by (suc k)
  not_full k few = ap (λ (b : Bool). cond b (record { full = (x ∷ replicate k x) ∷ []; begun = [] }) (begun_by (suc k))) (ne_eqb (length (x ∷ replicate k x)) 300 (λ e. omega (arith, long k, e, few)))

  -- the full window
  abbrev full_by : Layout
  full_by = record { full = replicate 300 x ∷ []; begun = [] }

  is_full : laid_in 300 x (begun_by 299) ≡ full_by
  is_full = refl

  module _ (v : View) where
    laid_so : (k : ℕ) (m : Meter) → k < 300 → Young t k m → laid_by v m (Event.sample second) (begun_by k) ≡ laid_in 300 x (begun_by k)
    unfolding coded_minutes
    laid_so k m few y = rw (taken t second load_ok k m few y, y.code, load_p) refl

    -- fewer than 300 leave it open
    goes_on : (n k : ℕ) (m : Meter) → k + n < 300 → Young t k m → laid_all v m (steady n x) (begun_by k) ≡ begun_by (k + n)
    unfolding laid_all
    goes_on zero k m few y =
        let same : k ≡ k + 0 = omega arith in
        ap begun_by same
    goes_on (suc n) k m few y =
        let same : suc k + n ≡ k + suc n = omega arith in
        let next = after_event v m (Event.sample second) in
        ap (laid_all v next (steady n x)) (laid_so k m (omega (arith, few)) y ∙ not_full k (omega (arith, few)))
        ∙ goes_on n (suc k) next (omega (arith, few)) (older t second load_ok k m y)
        ∙ ap begun_by same

    -- the 300th fills it
    closes : (n k : ℕ) (m : Meter) → k + n ≡ 299 → Young t k m → laid_all v m (steady (suc n) x) (begun_by k) ≡ full_by
    unfolding laid_all
    closes zero k m whole y =
        let same : k ≡ 299 = omega (arith, whole) in
        laid_so k m (omega (arith, whole)) y ∙ ap (λ (n : ℕ). laid_in 300 x (begun_by n)) same ∙ is_full
    closes (suc n) k m whole y =
        let next = after_event v m (Event.sample second) in
        ap (laid_all v next (steady (suc n) x)) (laid_so k m (omega (arith, whole)) y ∙ not_full k (omega (arith, whole)))
        ∙ closes n (suc k) next (omega (arith, whole)) (older t second load_ok k m y)

-- ---- what is read then

total_steady : (n x : ℕ) → total (replicate n x) ≡ n * x
unfolding total
total_steady zero x = omega arith
total_steady (suc n) x = omega (arith, total_steady n x, suc-mul n x)

-- the average of 300 times the same is this
same_average : (x : ℕ) → average_of (replicate 300 x) ≡ x
same_average x =
    let sum : total (replicate 300 x) ≡ 300 * x = total_steady 300 x in
    omega (arith, sum)

alone : (x : ℕ) → largest (x ∷ []) ≡ x
unfolding largest
alone zero = refl
alone (suc x) = rw (lt-leb (suc x) 0 (omega arith)) refl

module _ (v : View) (good : T (passes v)) where
  pub window_fills : (g : Given) (x : ℕ) → (new_of g).answer ≡ Ok tt → x ≤ power_limit (t_of g.ratios) → WindowFills v g x
  window_fills g x made most =
      let first = young g made in
      let filled = closes (t_of g.ratios) x most v 299 0 _ refl first in
      let now = averages_read v good g (steady 300 x) made in
      record {
        before = goes_on (t_of g.ratios) x most v 299 0 _ (omega arith) first;
        filled = filled;
        average_read = λ p. now.average_read p ∙ (λ i. Reading (read.Power (rounded_power (t_of g.ratios) (last_in (filled i))))) ∙ ap (λ (a : ℕ). Reading (read.Power (rounded_power (t_of g.ratios) a))) (same_average x);
        peak_read = λ p. now.peak_read p ∙ (λ i. Reading (read.Power (rounded_power (t_of g.ratios) (peak_in (filled i))))) ∙ ap (λ (a : ℕ). Reading (read.Power (rounded_power (t_of g.ratios) a))) (ap (λ (a : ℕ). largest (a ∷ [])) (same_average x) ∙ alone x);
      }

  pub averages_always : AveragesAlways v
  averages_always = record { reads = averages_read v good; fills = window_fills }
