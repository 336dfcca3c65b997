-- Demand 3: what one energy, read in any of its three places, is worth. From a new meter, after any samples and frames, refused ones among
-- them, through the bytes of the replies and what the collector makes of them.
use Rattle.std.specs.Prelude.{◌≡◌, ℕ, ◌+◌, ◌*◌, ◌≤◌, ◌<◌, false, List, length, Ok}
use Rattle.counts.specs.declared.Count.{Count}
use Rattle.counts.specs.declared.WattHours.{WattHours}
use Rattle.ratio.specs.Ratios.{t_of}
use Rattle.ratio.specs.Steps.{step_of}
use Rattle.counts.specs.Counting.{energy_of, join_of, join_halves_of}
use Rattle.directory.specs.Quantity.{quantity, energy_count, wrap, low, high}
use Rattle.directory.specs.Views.{View}
use Rattle.reading.specs.declared.Quantity.TheVariants as read
use Rattle.reading.specs.declared.Answer.{Answer}
use Rattle.reading.specs.declared.Answer.TheVariants.{Reading}
use Rattle.board.specs.Board.{to_second, view_for}
use Rattle.collector.specs.Collector.{collector_in}
use Rattle.collector.specs.When.{Asks, item_at}
use Rattle.meter.specs.declared.given.Given.{Given}
use Rattle.meter.specs.declared.Meter.{Meter}
use Rattle.meter.specs.Meters.{new_of}
use Rattle.demands.specs.Histories.{Event, after_all, exact_of, any_taken}
use Rattle.demands.specs.RoundTrip.{Names, plate_of, reply_to}

-- a figure in Wh is never above an exact energy, and below it by less than one step
pub record Bounds (exact step wh : ℕ) : Type 0 where
  pub above : wh * 360000 ≤ exact
  pub below : exact < (wh + step) * 360000

-- ---- over a view: the directory and the most words that reads go by

module _ (v : View) where
  -- a history with two moments: a new meter and any events, then events with no accepted sample between (the first read is one of these)
  pub record History : Type 0 where
    pub given : Given
    pub made : (new_of given).answer ≡ Ok tt
    pub events : List Event
    pub between : List Event
    pub idle : any_taken v (after_all v (new_of given).meter events) between ≡ false

  -- the meter when the first of two reads comes
  abbrev pub sooner : History → Meter
  sooner h = after_all v (new_of h.given).meter h.events

  -- the meter when the second comes
  abbrev pub later : History → Meter
  later h = after_all v (sooner h) h.between

  -- the exact energy of the samples accepted so far, at the first read and, as `still` says, at the second
  abbrev pub exact_at : ℕ → History → ℕ
  exact_at e h = exact_of v e (new_of h.given).meter h.events

  -- a read of a quantity: a request for a meter, by either of its addresses, that is answered with data, room for the reply, and the
  -- index of an item that shows it
  pub record Poll (g : Given) (quantity : ℕ) : Type 0 where
    pub request : List ℕ
    pub buffer : List ℕ
    pub index : ℕ
    pub asks : Asks (view_for v (to_second g request)) request
    pub named : Names g request
    pub room : 256 ≤ length buffer
    pub below : index < asks.count
    pub shows : (item_at (view_for v (to_second g request)) asks index).quantity ≡ quantity

  -- what the collector, told the nameplate of a meter that was given so, makes of a meter's reply
  abbrev pub collected : {g : Given} {quantity : ℕ} → Meter → Poll g quantity → Answer
  collected {g} m p = collector_in v p.request (reply_to v m p.request p.buffer) (plate_of g) p.index

  -- register and wrap are read, they join, and what they come to is within the bounds of the ratio's step
  pub record RegisterRead (h : History) (e : ℕ) (register wrapped : Answer) : Type 0 where
    pub count : Count
    pub turns : ℕ
    pub whole : WattHours
    pub reads : register ≡ Reading (read.Energy count (step_of (t_of h.given.ratios)) (energy_of (t_of h.given.ratios) count.0))
    pub wraps : wrapped ≡ Reading (read.Wrap turns)
    pub joins : join_of h.given.ratios count turns ≡ Ok whole
    pub bounds : Bounds (exact_at e h) (step_of (t_of h.given.ratios)) whole.0

  -- Low and High are read, they join, and what they come to is within the bounds of 1 Wh
  pub record HalvesRead (h : History) (e : ℕ) (lower upper : Answer) : Type 0 where
    pub lows : ℕ
    pub highs : ℕ
    pub whole : WattHours
    pub reads : lower ≡ Reading (read.Low lows)
    pub heads : upper ≡ Reading (read.High highs)
    pub joins : join_halves_of lows highs ≡ Ok whole
    pub bounds : Bounds (exact_at e h) 1 whole.0

  -- an energy is read so: from an item of its register, wherever it stands, with its wrap, and from its Low with its High, in either
  -- order; between the two reads nothing is added to the exact energy
  pub record EnergyRead (h : History) (e : ℕ) : Type 0 where
    pub register_first :
        (r : Poll h.given (quantity energy_count e)) (w : Poll h.given (quantity wrap e)) →
        RegisterRead h e (collected (sooner h) r) (collected (later h) w)
    pub wrap_first :
        (r : Poll h.given (quantity energy_count e)) (w : Poll h.given (quantity wrap e)) →
        RegisterRead h e (collected (later h) r) (collected (sooner h) w)
    pub low_first :
        (l : Poll h.given (quantity low e)) (u : Poll h.given (quantity high e)) →
        HalvesRead h e (collected (sooner h) l) (collected (later h) u)
    pub high_first :
        (l : Poll h.given (quantity low e)) (u : Poll h.given (quantity high e)) →
        HalvesRead h e (collected (later h) l) (collected (sooner h) u)
    pub still : exact_of v e (sooner h) h.between ≡ 0

  -- STATEMENT: demand 3: each of the four energies is read so, in any history
  abbrev pub Demand3 : Type 0
  Demand3 = (h : History) (e : ℕ) → e < 4 → EnergyRead h e
