-- Demand 3's readings, with the row of the table put in for the step. The largest energy is short of 100,000,000 MWh, so its wrap is 0.
use Rattle.std.specs.Prelude.{Ok}
use mathlib.Core.Path.{◌≡◌, sym, ap, ◌∙◌}
use Prim.Native.Nat.{ℕ, ◌*◌, ◌/◌, ◌%◌, ◌≤◌, ◌<◌}
use native.Mathlib.Nat.{div-div-eq-div-mul}
use native.Mathlib.Omega.{arith}
use lib.Dec.{T}
use Rattle.ratio.specs.Ratios.{t_of}
use Rattle.ratio.specs.Steps.{step_of}
use Rattle.ratio.proofs.Steps.{step_rows}
use Rattle.counts.specs.Counting.{join_of}
use Rattle.counts.proofs.Joins.{join_split}
use Rattle.directory.specs.Views.{View, passes}
use Rattle.reading.specs.declared.Quantity.TheVariants as read
use Rattle.reading.specs.declared.Answer.TheVariants.{Reading}
use Rattle.demands.specs.Demand3.{History, sooner, exact_at}
use Rattle.demands.specs.LastRows.{steps_at, CountedIn, LastRows, LastRatios, FirstRows}
use Rattle.demands.proofs.Demand3.{whole, then, counts, wraps, most, ratios_ok_lem}

module _ (v : View) (good : T (passes v)) where
  module _ (h : History v) (e : ℕ) (four : e < 4) where
    abbrev t : ℕ
    t = t_of h.given.ratios

    -- whatever the row: the energy is counted in the step that stands there
    counted_in : (step : ℕ) → step_of t ≡ step → CountedIn v step h e
    counted_in step row =
        let steps : exact_at v e h / 360000 / step_of t ≡ steps_at v step e h =
        ap (λ (s : ℕ). exact_at v e h / 360000 / s) row ∙ div-div-eq-div-mul (exact_at v e h) 360000 step in
        record {
          register_read =
              λ p. counts v good h e four (sooner v h) (then v good h e four) p
              ∙ (λ i. Reading (read.Energy (record { 0 = steps i % 100000000 }) (row i) (record { 0 = steps i % 100000000 * row i })));
          wrap_read =
              λ p. wraps v good h e four (sooner v h) (then v good h e four) p
              ∙ (λ i. Reading (read.Wrap (steps i / 100000000)));
          joins =
              sym (λ i. join_of h.given.ratios (record { 0 = steps i % 100000000 }) (steps i / 100000000))
              ∙ join_split.counts h.given.ratios (whole v good h e four) (ratios_ok_lem v good h e four)
              ∙ (λ i. Ok (record { 0 = steps i * row i }));
        }

    by_megawatt_hours : 1000000 ≤ t → CountedIn v 1000000 h e
    by_megawatt_hours from = counted_in 1000000 (step_rows.row_1000000 t from)

    -- all that a meter keeps is less than a full turn of these
    no_turn : steps_at v 1000000 e h / 100000000 ≡ 0
    no_turn = omega (arith, most v good h e four (sooner v h) (then v good h e four))

  pub last_rows : LastRows v
  last_rows = record {
    megawatt_hours = λ h e four from. by_megawatt_hours h e four (omega (arith, from));
    no_turn =
        λ h e four from p. (by_megawatt_hours h e four (omega (arith, from))).wrap_read p
        ∙ ap (λ (n : ℕ). Reading (read.Wrap n)) (no_turn h e four);
    hundred_kilowatt_hours =
        λ h e four from top. counted_in h e four 100000 (step_rows.row_100000 (t_of h.given.ratios) (omega (arith, from)) (omega (arith, top)));
  }

  pub last_ratios : LastRatios v
  last_ratios = record {
    t_999_999 = λ h e four same. last_rows.hundred_kilowatt_hours h e four (omega (arith, ap t_of same)) (omega (arith, ap t_of same));
    t_1_000_000 = λ h e four same. last_rows.megawatt_hours h e four (omega (arith, ap t_of same));
    t_1_200_000 = λ h e four same. last_rows.megawatt_hours h e four (omega (arith, ap t_of same));
    t_99_980_001 = λ h e four same. last_rows.megawatt_hours h e four (omega (arith, ap t_of same));
  }

  pub first_rows : FirstRows v
  first_rows = record {
    ten_watt_hours = λ h e four from top. counted_in h e four 10 (step_rows.row_10 _ (omega (arith, top)));
    hundred_watt_hours = λ h e four from top. counted_in h e four 100 (step_rows.row_100 _ (omega (arith, from)) (omega (arith, top)));
    kilowatt_hours = λ h e four from top. counted_in h e four 1000 (step_rows.row_1000 _ (omega (arith, from)) (omega (arith, top)));
    ten_kilowatt_hours = λ h e four from top. counted_in h e four 10000 (step_rows.row_10000 _ (omega (arith, from)) (omega (arith, top)));
  }
