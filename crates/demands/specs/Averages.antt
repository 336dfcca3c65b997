-- Paper 02, request 1, over histories: the accepted samples laid out in windows, with no look at the figures that the record keeps,
-- and what a collector reads of them, through the bytes of the replies.
use Rattle.std.specs.Prelude.{◌≡◌, ℕ, ◌+◌, ◌/◌, ◌≤◌, ◌<◌, cond, List, [], ◌∷◌, map, leb, eqb, pos, length, get_or, replicate, Ok}
use Rattle.signed.specs.Signs.{above_of}
use Rattle.ratio.specs.Ratios.{t_of}
use Rattle.ratio.specs.Powers.{power_limit}
use Rattle.average.specs.Windows.{window_seconds}
use Rattle.directory.specs.Quantity.{quantity, power, plain, average, peak, minutes}
use Rattle.directory.specs.Views.{View}
use Rattle.reading.specs.declared.Quantity.TheVariants as read
use Rattle.reading.specs.declared.Answer.TheVariants.{Reading}
use Rattle.meter.specs.declared.given.Given.{Given}
use Rattle.meter.specs.declared.Meter.{Meter}
use Rattle.meter.specs.Samples.{in_force, sample_of}
use Rattle.meter.specs.Groups.{code_of}
use Rattle.meter.specs.Meters.{new_of}
use Rattle.demands.specs.Meaning.{rounded_power}
use Rattle.demands.specs.Histories.{Event, is_taken, after_event, after_all}
use Rattle.demands.specs.Demand3.{Poll, collected}

-- seconds laid out in windows: the full ones, and the one that is begun; each is the powers of its seconds; the latest come first
pub record Layout : Type 0 where
  pub full : List (List ℕ)
  pub begun : List ℕ

-- no second
abbrev pub no_layout : Layout
no_layout = record { full = []; begun = [] }

-- one second more, in windows of so many: it joins the one that is begun, which is full when it has them
abbrev pub laid_in : ℕ → ℕ → Layout → Layout
laid_in seconds p l =
    cond (eqb (length (p ∷ l.begun)) seconds)
    (record { full = (p ∷ l.begun) ∷ l.full; begun = [] })
    (record { full = l.full; begun = p ∷ l.begun })

-- the one that is begun is dropped
abbrev pub dropped_of : Layout → Layout
dropped_of l = record { full = l.full; begun = [] }

-- a plain sum
unfoldable pub total : List ℕ → ℕ
total [] = 0
total (p ∷ ps) = p + total ps

-- the average of a window: the sum over its seconds, rounded down
abbrev pub average_of : List ℕ → ℕ
average_of window = total window / length window

-- the largest of some; 0 where there is none
unfoldable pub largest : List ℕ → ℕ
largest [] = 0
largest (n ∷ ns) = cond (leb n (largest ns)) (largest ns) n

-- the average of the last full window; 0 while there is none
abbrev pub last_in : Layout → ℕ
last_in l = get_or (map average_of l.full) 0 0

-- the largest such average of all full windows; 0 while there is none
abbrev pub peak_in : Layout → ℕ
peak_in l = largest (map average_of l.full)

-- the whole minutes of the open one
abbrev pub minutes_in : Layout → ℕ
minutes_in l = length l.begun / 60

-- a steady load: so many seconds of a positive P, in hundredths of W, on one phase
abbrev pub steady : ℕ → ℕ → List Event
steady seconds p = replicate seconds (Event.sample (sample_of (record { l1 = pos p; l2 = pos 0; l3 = pos 0 })))

-- ---- over a view: the directory and the most words that reads go by

module _ (v : View) where
  -- what an event adds: an accepted sample one second of its positive 3-phase P, in windows of the code in force when it came; a frame
  -- that changes this code drops the window that is begun; all others nothing
  abbrev pub laid_by : Meter → Event → Layout → Layout
  laid_by m (Event.sample s) l =
      cond (is_taken m (Event.sample s)) (laid_in (window_seconds (code_of m.setup)) (above_of (in_force s.p)) l) l
  laid_by m (Event.frame bytes buffer) l =
      cond (eqb (code_of m.setup) (code_of (after_event v m (Event.frame bytes buffer)).setup)) l (dropped_of l)

  -- some events laid out behind others, one by one
  unfoldable pub laid_all : Meter → List Event → Layout → Layout
  laid_all m [] l = l
  laid_all m (x ∷ xs) l = laid_all (after_event v m x) xs (laid_by m x l)

  -- ---- a new meter, by what it is given, and what came to it since

  module _ (g : Given) (xs : List Event) where
    -- the meter now
    abbrev pub meter_now : Meter
    meter_now = after_all v (new_of g).meter xs

    -- all events since new, laid out
    abbrev pub layout_of : Layout
    layout_of = laid_all (new_of g).meter xs no_layout

    -- STATEMENT: what is read of average and peak, wherever they stand, is the average of the last full window and the largest of all
    -- full windows since new, in the unit of the P register, and what is read of minutes the whole ones of the open window; the
    -- window that is begun is never full
    pub record AveragesRead : Type 0 where
      pub average_read :
          (p : Poll v g (quantity power average)) →
          collected v meter_now p ≡ Reading (read.Power (rounded_power (t_of g.ratios) (last_in layout_of)))
      pub peak_read :
          (p : Poll v g (quantity power peak)) →
          collected v meter_now p ≡ Reading (read.Power (rounded_power (t_of g.ratios) (peak_in layout_of)))
      pub minutes_read :
          (p : Poll v g (quantity plain minutes)) → collected v meter_now p ≡ Reading (read.Plain (minutes_in layout_of))
      pub begun_fewer : length layout_of.begun < window_seconds (code_of meter_now.setup)

  -- STATEMENT: windows do fill. On a new meter 299 seconds of a steady load are a window that is begun, and none is full; with the 300th
  -- it is full, and what is read as average and as peak is the load
  pub record WindowFills (g : Given) (load : ℕ) : Type 0 where
    pub before : layout_of g (steady 299 load) ≡ record { full = []; begun = replicate 299 load }
    pub filled : layout_of g (steady 300 load) ≡ record { full = replicate 300 load ∷ []; begun = [] }
    pub average_read :
        (p : Poll v g (quantity power average)) →
        collected v (meter_now g (steady 300 load)) p ≡ Reading (read.Power (rounded_power (t_of g.ratios) load))
    pub peak_read :
        (p : Poll v g (quantity power peak)) →
        collected v (meter_now g (steady 300 load)) p ≡ Reading (read.Power (rounded_power (t_of g.ratios) load))

  -- STATEMENT: so it is of every accepted new meter, whatever came to it, and of every load within the power limit
  pub record AveragesAlways : Type 0 where
    pub reads : (g : Given) (xs : List Event) → (new_of g).answer ≡ Ok tt → AveragesRead g xs
    pub fills :
        (g : Given) (load : ℕ) → (new_of g).answer ≡ Ok tt → load ≤ power_limit (t_of g.ratios) →
        WindowFills g load
