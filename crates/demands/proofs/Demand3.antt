-- At either moment an energy is the exact one, so its whole Wh are the exact energy divided by 360,000; each reading shows its part of these, and
-- the parts join to them, or to them rounded down to the step.
use mathlib.Core.Path.{◌≡◌, refl, sym, ap, ◌∙◌}
use mathlib.Core.Bool.{true}
use mathlib.Core.List.{[], map}
use Prim.Native.Nat.{ℕ, ◌/◌, ◌%◌, ◌≤◌, ◌<◌}
use native.Mathlib.Omega.{arith}
use lib.Dec.{T}
use lib.ListN.{get_or}
use Rattle.counts.specs.declared.WattHours.{WattHours}
use Rattle.ratio.specs.Ratios.{ratios_ok, t_of}
use Rattle.ratio.specs.Steps.{step_of}
use Rattle.counts.specs.Counting.{register_of, wrap_of, low_of, high_of, energy_of, top_wh, rounded_of}
use Rattle.counts.proofs.Joins.{join_split}
use Rattle.directory.specs.Quantity.{quantity, energy_count, low, high, wrap}
use Rattle.directory.specs.Views.{View, passes}
use Rattle.reading.specs.declared.Quantity.{Quantity}
use Rattle.reading.specs.declared.Quantity.TheVariants as read
use Rattle.reading.specs.declared.Answer.TheVariants.{Reading}
use Rattle.meter.specs.declared.energies.Energy.{Energy}
use Rattle.meter.specs.declared.given.Given.{Given}
use Rattle.meter.specs.declared.Meter.{Meter}
use Rattle.meter.specs.Energies.{no_energy, value_of}
use Rattle.meter.specs.Meters.{meter_t, meter_ok, new_of, energies_of, energy_at}
use Rattle.meter.proofs.Parts.{energy_rest, own_ratios}
use Rattle.meter.proofs.Sums.{new_zero}
use Rattle.meter.proofs.Accepts.{made_within, new_blank}
use Rattle.registers.proofs.Values.{energy_within, energy_most}
use Rattle.registers.proofs.Widths.{Shows, count_shows, low_shows, high_shows, wrap_shows}
use Rattle.demands.specs.Meaning.{count_meanings, low_meanings, high_meanings, wrap_meanings, meanings, meaning_of}
use Rattle.demands.specs.Demand3.{History, sooner, later, exact_at, Poll, collected, RegisterRead, HalvesRead, Demand3}
use Rattle.demands.proofs.Shown.{mapped}
use Rattle.demands.proofs.Polls.{poll_reads}
use Rattle.demands.proofs.Histories.{after_events, idle_adds}

-- ---- what the energies of a record mean

module _ (m : Meter) (e : ℕ) (four : e < 4) where
  abbrev wh : WattHours
  wh = (energy_at e m).wh

  -- one of a kind whose meanings go by the energies
  one_means : (k : ℕ) (f : Energy → Quantity) → get_or (meanings m) k [] ≡ map f (energies_of m) → meaning_of m (quantity k e) ≡ f (energy_at e m)
  unfolding meaning_of
  one_means k f same =
      let kind : quantity k e / 64 ≡ k = omega (arith, four) in
      let which : quantity k e % 64 ≡ e = omega (arith, four) in
      rw (kind, which, same) (mapped f (energies_of m) no_energy (read.Plain 0) e four)

  count_means : meaning_of m (quantity energy_count e) ≡ read.Energy (register_of (meter_t m) wh) (step_of (meter_t m)) (energy_of (meter_t m) (register_of (meter_t m) wh).0)
  unfolding count_meanings
  count_means = one_means 5 (λ (x : Energy). read.Energy (register_of (meter_t m) x.wh) (step_of (meter_t m)) (energy_of (meter_t m) (register_of (meter_t m) x.wh).0)) refl

  low_means : meaning_of m (quantity low e) ≡ read.Low (low_of wh)
  unfolding low_meanings
  low_means = one_means 6 (λ (x : Energy). read.Low (low_of x.wh)) refl

  high_means : meaning_of m (quantity high e) ≡ read.High (high_of wh)
  unfolding high_meanings
  high_means = one_means 7 (λ (x : Energy). read.High (high_of x.wh)) refl

  wrap_means : meaning_of m (quantity wrap e) ≡ read.Wrap (wrap_of (meter_t m) wh)
  unfolding wrap_meanings
  wrap_means = one_means 8 (λ (x : Energy). read.Wrap (wrap_of (meter_t m) x.wh)) refl

module _ (v : View) (good : T (passes v)) where
  module _ (h : History v) (e : ℕ) (four : e < 4) where
    abbrev first : Meter
    first = (new_of h.given).meter

    abbrev t : ℕ
    t = t_of h.given.ratios

    -- the whole Wh of the exact energy
    abbrev pub whole : WattHours
    whole = record { 0 = exact_at v e h / 360000 }

    -- ---- either moment

    pub record Moment (m : Meter) : Type 0 where
      pub within : meter_ok m ≡ true
      pub given : m.given ≡ h.given
      pub value : value_of (energy_at e m) ≡ exact_at v e h

    pub then : Moment (sooner v h)
    then =
        let blank = new_blank h.given in
        record {
          within = (after_events v good).within first h.events (made_within h.given h.made);
          given = (after_events v good).given first h.events ∙ ap (λ (m : Meter). m.given) blank;
          value = omega (arith, (after_events v good).grows e first h.events, new_zero e h.given);
        }

    last : Moment (later v h)
    last = record {
      within = (after_events v good).within (sooner v h) h.between then.within;
      given = (after_events v good).given (sooner v h) h.between ∙ then.given;
      value = omega (arith, (after_events v good).grows e (sooner v h) h.between, idle_adds v good e (sooner v h) h.between h.idle, then.value);
    }

    -- ---- what is read then

    module _ (m : Meter) (now : Moment m) where
      same : (energy_at e m).wh ≡ whole
      same =
          let rest = energy_rest (energy_at e m) (energy_within m e now.within) in
          let n : (energy_at e m).wh.0 ≡ exact_at v e h / 360000 = omega (arith, now.value, rest) in
          ap (λ (x : ℕ). record { 0 = x }) n

      same_t : meter_t m ≡ t
      same_t = ap (λ (g : Given). t_of g.ratios) now.given

      polled : {q : ℕ} (p : Poll v h.given q) → Shows m q → collected v m p ≡ Reading (meaning_of m q)
      polled p shows = poll_reads v good m now.within now.given p shows

      pub counts : (p : Poll v h.given (quantity energy_count e)) → collected v m p ≡ Reading (read.Energy (register_of t whole) (step_of t) (energy_of t (register_of t whole).0))
      counts p =
          polled p (count_shows m now.within e four)
          ∙ ap Reading (count_means m e four)
          ∙ (λ i. Reading (read.Energy (register_of (same_t i) (same i)) (step_of (same_t i)) (energy_of (same_t i) (register_of (same_t i) (same i)).0)))

      pub wraps : (p : Poll v h.given (quantity wrap e)) → collected v m p ≡ Reading (read.Wrap (wrap_of t whole))
      wraps p = polled p (wrap_shows m now.within e four) ∙ ap Reading (wrap_means m e four) ∙ (λ i. Reading (read.Wrap (wrap_of (same_t i) (same i))))

      -- no meter keeps more than the top
      pub most : whole.0 ≤ top_wh
      most = rw (sym (ap (λ (x : WattHours). x.0) same)) (energy_most m e now.within)

      lows : (p : Poll v h.given (quantity low e)) → collected v m p ≡ Reading (read.Low (low_of whole))
      lows p = polled p (low_shows m now.within e four) ∙ ap Reading (low_means m e four) ∙ (λ i. Reading (read.Low (low_of (same i))))

      highs : (p : Poll v h.given (quantity high e)) → collected v m p ≡ Reading (read.High (high_of whole))
      highs p = polled p (high_shows m now.within e four) ∙ ap Reading (high_means m e four) ∙ (λ i. Reading (read.High (high_of (same i))))

    -- ---- joined

    pub ratios_ok_lem : ratios_ok h.given.ratios ≡ true
    ratios_ok_lem = ap (λ (g : Given). ratios_ok g.ratios) (sym then.given) ∙ own_ratios (sooner v h) then.within

    register_read : (m n : Meter) → Moment m → Moment n → (r : Poll v h.given (quantity energy_count e)) (w : Poll v h.given (quantity wrap e)) → RegisterRead v h e (collected v m r) (collected v n w)
    register_read m n now thereafter r w = record {
      count = register_of t whole;
      turns = wrap_of t whole;
      whole = rounded_of t whole;
      reads = counts m now r;
      wraps = wraps n thereafter w;
      joins = join_split.counts h.given.ratios whole ratios_ok_lem;
      bounds = record { above = omega (arith, join_split.above t whole); below = omega (arith, join_split.below t whole) };
    }

    halves_read : (m n : Meter) → Moment m → Moment n → (l : Poll v h.given (quantity low e)) (u : Poll v h.given (quantity high e)) → HalvesRead v h e (collected v m l) (collected v n u)
    halves_read m n now thereafter l u = record {
      lows = low_of whole;
      highs = high_of whole;
      whole = whole;
      reads = lows m now l;
      heads = highs n thereafter u;
      joins = join_split.halves whole (most m now);
      bounds = record { above = omega arith; below = omega arith };
    }

  pub demand_3 : Demand3 v
  demand_3 h e four = record {
    register_first = register_read h e four (sooner v h) (later v h) (then h e four) (last h e four);
    wrap_first = register_read h e four (later v h) (sooner v h) (last h e four) (then h e four);
    low_first = halves_read h e four (sooner v h) (later v h) (then h e four) (last h e four);
    high_first = halves_read h e four (later v h) (sooner v h) (last h e four) (then h e four);
    still = idle_adds v good e (sooner v h) h.between h.idle;
  }
