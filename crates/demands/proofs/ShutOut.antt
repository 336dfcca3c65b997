-- Of our own the figure is what demand 3 speaks of. After one sample of ten Wh the exact energy is a step higher, after two it is two higher, and no figure is within less than a step of both; the step is
-- positive, so the bounds fix the count.
use Rattle.std.specs.Prelude.{Ok}
use mathlib.Core.Path.{◌≡◌, refl, sym, ap, ◌∙◌}
use mathlib.Core.Bool.{true, ◌&&◌}
use mathlib.Core.List.{List, [], ◌∷◌}
use Prim.Native.Nat.{ℕ, ◌+◌, ◌*◌, ◌/◌, ◌≤◌, ◌<◌}
use native.Mathlib.Nat.{le_trans, div-eq_of_lt-le}
use native.Mathlib.Omega.{arith}
use lib.Dec.{T}
use borrow.Author.Tests.{le-leb}
use Rattle.signed.specs.Signs.{above_of, below_of}
use Rattle.signed.proofs.Sums.{above_le, below_le}
use Rattle.ratio.specs.Ratios.{t_of}
use Rattle.ratio.specs.Powers.{top_power, power_limit}
use Rattle.ratio.proofs.Powers.{power_laws}
use Rattle.ratio.specs.Steps.{step_of}
use Rattle.ratio.proofs.Steps.{step_rows}
use Rattle.counts.specs.Counting.{top_wh, top_count, register_of, wrap_of, energy_of}
use Rattle.setup.specs.Ranges.{word_ok, group_ok}
use Rattle.directory.specs.Quantity.{quantity, energy_count, wrap, pos_ea}
use Rattle.directory.specs.Views.{View, passes}
use Rattle.reading.specs.declared.Answer.{Answer}
use Rattle.average.specs.Windows.{coded_minutes, after_second, average_ok}
use Rattle.meter.specs.declared.given.Given.{Given}
use Rattle.meter.specs.declared.samples.Powers.{Powers}
use Rattle.meter.specs.declared.samples.Sample.{Sample}
use Rattle.meter.specs.declared.Meter.{Meter}
use Rattle.meter.specs.Samples.{in_force, powers_ok, sample_ok}
use Rattle.meter.specs.Energies.{no_energies, with_power, within_top}
use Rattle.meter.specs.Meters.{meter_t, meter_ok, given_of, blank_of, new_of}
use Rattle.meter.specs.After.{next_of, meter_within_top, after_of}
use Rattle.meter.proofs.Parts.{in_force_most, sample_parts}
use Rattle.meter.proofs.Accepts.{made_within, new_blank, sample_answers}
use Rattle.demands.specs.Histories.{Event, after_all, exact_of}
use Rattle.demands.specs.Demand3.{History, Poll, Bounds, RegisterRead}
use Rattle.demands.specs.ShutOut.{Keeps, joined_wh, ours, bare_ratios, ten_wh, KeepsBare, ShutOut}
use Rattle.demands.proofs.NotEmpty.{not_empty}
use Rattle.demands.proofs.Demand3.{demand_3}

-- ---- what others cannot do

-- the step of such a meter
ten : step_of (t_of bare_ratios) ≡ 10
ten = step_rows.row_10 (t_of bare_ratios) (omega arith)

-- no figure keeps the bounds both before and after a whole step
same_figure : {a b s x y : ℕ} → Bounds a s x → Bounds b s y → b ≡ a + 3600000 → s ≡ 10 → x ≡ y → ⊥
same_figure p q f ten e = omega (arith, p.above, q.below)

made_up : (t exact count wrap : ℕ) → count ≤ top_count → Bounds exact (step_of t) (energy_of t (wrap * 100000000 + count)).0 → (count ≡ (register_of t (record { 0 = exact / 360000 })).0) × (wrap ≡ wrap_of t (record { 0 = exact / 360000 }))
made_up t exact count wrap top bounds =
    let n = wrap * 100000000 + count in
    let low : n * step_of t ≤ exact / 360000 = omega (arith, bounds.above) in
    let high : exact / 360000 < (n + 1) * step_of t = omega (arith, bounds.below) in
    let same : exact / 360000 / step_of t ≡ n = div-eq_of_lt-le (step_of t) low high in
    (omega (arith, same, top), omega (arith, same, top))

-- one second of a power within its limit is far below the top
first_within : (t : ℕ) (p : Powers) → powers_ok t p ≡ true → within_top (with_power no_energies (in_force p)) ≡ true
first_within t p h =
    let most = le_trans (in_force_most t p h) (power_laws.limit t) in
    let above = above_le (in_force p) most in
    let below = below_le (in_force p) most in
    λ i. le-leb _ top_wh (fits (above_of (in_force p)) above) i && le-leb _ top_wh (fits (below_of (in_force p)) below) i
  where
    fits : (x : ℕ) → x ≤ top_power → 0 + (0 + x) / 360000 ≤ top_wh
    fits x h = omega (arith, h)

takes : (g : Given) (s : Sample) → (new_of g).answer ≡ Ok tt → sample_ok (t_of g.ratios) s ≡ true → (after_of (new_of g).meter s).answer ≡ Ok tt
takes g s made h =
    let blank = new_blank g in
    let parts = sample_parts (t_of g.ratios) s h in
    let top : meter_within_top (next_of (blank_of g) s) ≡ true = λ i. first_within (t_of g.ratios) s.p parts.p i && first_within (t_of g.ratios) s.q parts.q i in
    (sample_answers (new_of g).meter s).accepted.1
    (made_within g made, ap (λ (m : Meter). sample_ok (meter_t m) s) blank ∙ h, ap (λ (m : Meter). meter_within_top (next_of m s)) blank ∙ top)

module _ (v : View) (good : T (passes v)) where
  -- ---- our own

  -- the history of a new meter with nothing between
  module _ (g : Given) (made : (new_of g).answer ≡ Ok tt) (e : ℕ) (four : e < 4) (register : Poll v g (quantity energy_count e)) (wrapped : Poll v g (quantity wrap e)) where
    abbrev told_by : List Event → History v
    told_by xs = record { given = g; made = made; events = xs; between = []; idle = (not_empty v good).idle (after_all v (new_of g).meter xs) [] [] }

    -- what is read and joined is what demand 3 speaks of
    joined_so : (xs : List Event) (a b : Answer) (x : RegisterRead v (told_by xs) e a b) → joined_wh g.ratios a b ≡ x.whole.0
    joined_so xs a b x = rw (x.reads, x.wraps, x.joins) refl

    kept : Keeps v g e (ours v g e register wrapped)
    unfolding after_all
    kept xs =
        let x = (demand_3 v good (told_by xs) e four).register_first register wrapped in
        rw (joined_so xs _ _ x) (record { above = x.bounds.above; below = omega (arith, x.bounds.below) })

  -- ---- others, whatever they are

  abbrev bare : Meter
  bare = (new_of (given_of 1 bare_ratios)).meter

  abbrev one : List Event
  one = Event.sample ten_wh ∷ []

  abbrev two : List Event
  two = Event.sample ten_wh ∷ Event.sample ten_wh ∷ []

  none_exact : exact_of v pos_ea bare [] ≡ 0
  unfolding exact_of
  none_exact = refl

  one_exact : exact_of v pos_ea bare one ≡ 3600000
  unfolding exact_of after_of new_of meter_ok sample_ok in_force power_limit group_ok word_ok average_ok after_second coded_minutes
  one_exact = refl

  two_exact : exact_of v pos_ea bare two ≡ 7200000
  unfolding exact_of after_of new_of meter_ok sample_ok in_force power_limit group_ok word_ok average_ok after_second coded_minutes
  two_exact = refl

  ignores_samples : (figure : List Event → ℕ) → ((s : Sample) (xs : List Event) → figure (Event.sample s ∷ xs) ≡ figure xs) → KeepsBare v figure → ⊥
  ignores_samples figure same keeps = same_figure (keeps []) (keeps one) (omega (arith, none_exact, one_exact)) (omega (arith, ten)) (sym (same ten_wh []))

  -- what is the same each time ignores samples
  same_each_time : (figure : List Event → ℕ) → ((xs : List Event) → figure xs ≡ figure []) → KeepsBare v figure → ⊥
  same_each_time figure same = ignores_samples figure (λ s xs. same (Event.sample s ∷ xs) ∙ sym (same xs))

  first_only : (figure : List Event → ℕ) → ((s t : Sample) (xs : List Event) → figure (Event.sample s ∷ Event.sample t ∷ xs) ≡ figure (Event.sample s ∷ xs)) → KeepsBare v figure → ⊥
  first_only figure same keeps = same_figure (keeps one) (keeps two) (omega (arith, one_exact, two_exact)) (omega (arith, ten)) (sym (same ten_wh ten_wh []))

  pub shut_out : ShutOut v
  shut_out = record { kept = kept; same_each_time = same_each_time; ignores_samples = ignores_samples; first_only = first_only; made_up = made_up; takes = takes }
