-- Paper 01, "How tight the contracts are": why the wrong meters and collectors that it names are shut out. That a meter which
-- refuses or stays silent throughout is shut out, is `EveryItemPolled.data_sent` for frames and `takes` here for samples.
use Rattle.std.specs.Prelude.{◌≡◌, ℕ, ◌+◌, ◌*◌, ◌/◌, ◌≤◌, ◌<◌, true, List, [], ◌∷◌, pos, get_or, Ok}
use Rattle.ratio.specs.declared.Ratios.{Ratios}
use Rattle.ratio.specs.Ratios.{t_of}
use Rattle.ratio.specs.Steps.{step_of}
use Rattle.counts.specs.Counting.{top_count, register_of, wrap_of, energy_of, join_of, join_told}
use Rattle.directory.specs.Quantity.{quantity, energy_count, wrap, pos_ea}
use Rattle.directory.specs.Views.{View}
use Rattle.reading.specs.declared.Answer.{Answer}
use Rattle.reading.specs.Told.{told}
use Rattle.meter.specs.declared.given.Given.{Given}
use Rattle.meter.specs.declared.samples.Sample.{Sample}
use Rattle.meter.specs.Samples.{sample_ok, sample_of}
use Rattle.meter.specs.Meters.{given_of, new_of}
use Rattle.meter.specs.After.{after_of}
use Rattle.demands.specs.Histories.{Event, after_all, exact_of}
use Rattle.demands.specs.Demand3.{Poll, collected, Bounds}

-- the value of a reading, behind the number of its kind
abbrev pub value_read : Answer → ℕ
value_read answer = get_or (told answer) 2 0

-- the Wh that register and wrap join to, as they are read
abbrev pub joined_wh : Ratios → Answer → Answer → ℕ
joined_wh r register wrapped = get_or (join_told (join_of r (record { 0 = value_read register }) (value_read wrapped))) 1 0

-- without transformers the step is 10 Wh
abbrev pub bare_ratios : Ratios
bare_ratios = record { kta = 1; ktv = 10 }

-- a second of 36 kW on one phase: 10 Wh
abbrev pub ten_wh : Sample
ten_wh = sample_of (record { l1 = pos 3600000; l2 = pos 0; l3 = pos 0 })

-- ---- over a view: the directory and the most words that reads go by

module _ (v : View) where
  -- some board and collector, whatever they are, as the Wh of an energy that they make of a new meter's events: demand 3 holds of them
  abbrev pub Keeps : Given → ℕ → (List Event → ℕ) → Type 0
  Keeps g e figure = (xs : List Event) → Bounds (exact_of v e (new_of g).meter xs) (step_of (t_of g.ratios)) (figure xs)

  -- our own board and collector: after the events, register and wrap are polled, read and joined
  abbrev pub ours :
      (g : Given) (e : ℕ) → Poll v g (quantity energy_count e) → Poll v g (quantity wrap e) → List Event → ℕ
  ours g e register wrapped xs =
      joined_wh g.ratios
      (collected v (after_all v (new_of g).meter xs) register)
      (collected v (after_all v (new_of g).meter xs) wrapped)

  -- a board and collector by which demand 3 holds of +Ea of such a meter
  abbrev pub KeepsBare : (List Event → ℕ) → Type 0
  KeepsBare figure = Keeps (given_of 1 bare_ratios) pos_ea figure

  -- STATEMENT: demand 3 holds of our own board and collector, whatever the new meter, the energy and the polls; it fails of a
  -- collector that reports the same each time, of a board that ignores samples, of one that counts the first and nods at the others;
  -- a count and wrap whose join keeps the bounds are the register and wrap of the exact energy, none made up; a new meter takes every
  -- sample within limits
  pub record ShutOut : Type 0 where
    pub kept :
        (g : Given) → (new_of g).answer ≡ Ok tt →
        (e : ℕ) → e < 4 → (register : Poll v g (quantity energy_count e)) (wrapped : Poll v g (quantity wrap e)) →
        Keeps g e (ours g e register wrapped)
    pub same_each_time : (figure : List Event → ℕ) → ((xs : List Event) → figure xs ≡ figure []) → KeepsBare figure → ⊥
    pub ignores_samples :
        (figure : List Event → ℕ) → ((s : Sample) (xs : List Event) → figure (Event.sample s ∷ xs) ≡ figure xs) → KeepsBare figure → ⊥
    pub first_only :
        (figure : List Event → ℕ) →
        ((s t : Sample) (xs : List Event) → figure (Event.sample s ∷ Event.sample t ∷ xs) ≡ figure (Event.sample s ∷ xs)) →
        KeepsBare figure → ⊥
    pub made_up :
        (t exact count wrap : ℕ) → count ≤ top_count → Bounds exact (step_of t) (energy_of t (wrap * 100000000 + count)).0 →
        (count ≡ (register_of t (record { 0 = exact / 360000 })).0) × (wrap ≡ wrap_of t (record { 0 = exact / 360000 }))
    pub takes :
        (g : Given) (s : Sample) → (new_of g).answer ≡ Ok tt → sample_ok (t_of g.ratios) s ≡ true →
        (after_of (new_of g).meter s).answer ≡ Ok tt
