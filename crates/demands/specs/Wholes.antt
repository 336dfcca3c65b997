-- Paper 02, request 4, board and collector together: a meter's whole reply read by one call, over histories and through the bytes. What is
-- read of an item is in its cells, and demand 3 holds of what the cells of an energy join to.
use Rattle.std.specs.Prelude.{◌≡◌, ◌⊎◌, ℕ, ◌≤◌, ◌<◌, List, [], ◌∷◌, length, get_or, Ok}
use Rattle.refusal.specs.Numbers.{refused_by}
use Rattle.ratio.specs.Ratios.{t_of}
use Rattle.ratio.specs.Steps.{step_of}
use Rattle.counts.specs.declared.WattHours.{WattHours}
use Rattle.counts.specs.Counting.{join_of, join_halves_of}
use Rattle.directory.specs.Quantity.{quantity, energy_count, wrap, low, high}
use Rattle.directory.specs.Views.{View}
use Rattle.reading.specs.Told.{kind_of}
use Rattle.reading.specs.Cells.{cell_of}
use Rattle.board.specs.Board.{to_second, view_for}
use Rattle.collector.specs.When.{item_at}
use Rattle.collector.specs.Whole.{Rows, whole_in, WholeGives}
use Rattle.meter.specs.declared.given.Given.{Given}
use Rattle.meter.specs.declared.Meter.{Meter}
use Rattle.meter.specs.Meters.{new_of}
use Rattle.demands.specs.Meaning.{meaning_of}
use Rattle.demands.specs.Histories.{Event, after_all, AllTyped}
use Rattle.demands.specs.RoundTrip.{plate_of, reply_to}
use Rattle.demands.specs.Demand3.{Bounds, History, sooner, later, exact_at, Poll}

-- two rows lent, of values and of kinds
pub record TwoRows : Type 0 where
  pub values : List ℕ
  pub kinds : List ℕ

-- ---- over a view: the directory and the most words that reads go by

module _ (v : View) where
  -- ---- a meter that was given so, a request for it, and two rows

  module _ (m : Meter) {g : Given} {q : ℕ} (p : Poll v g q) (rows : TwoRows) where
    -- its whole reply, read by one call that is told its nameplate
    abbrev pub read_whole : Rows
    read_whole = whole_in v p.request (reply_to v m p.request p.buffer) (plate_of g) rows.values rows.kinds

    -- the answer of that call in numbers
    abbrev pub GivesWhole : List ℕ → Type 0
    GivesWhole numbers = WholeGives v p.request (reply_to v m p.request p.buffer) (plate_of g) rows.values rows.kinds numbers

    -- the quantity of the item of an index
    abbrev pub quantity_at : ℕ → ℕ
    quantity_at index = (item_at (view_for v (to_second g p.request)) p.asks index).quantity

    -- both rows have a cell for every item
    pub record Room : Type 0 where
      pub values_room : p.asks.count ≤ length rows.values
      pub kinds_room : p.asks.count ≤ length rows.kinds

    -- or one has not
    abbrev pub NoRoom : Type 0
    NoRoom = (length rows.values < p.asks.count) ⊎ (length rows.kinds < p.asks.count)

    -- every item is read, and stands in its cells as its quantity
    pub record AllCells : Type 0 where
      pub items : GivesWhole (0 ∷ p.asks.count ∷ [])
      pub values : (index : ℕ) → index < p.asks.count → get_or read_whole.values index 0 ≡ cell_of (meaning_of m (quantity_at index))
      pub kinds : (index : ℕ) → index < p.asks.count → get_or read_whole.kinds index 0 ≡ kind_of (meaning_of m (quantity_at index))

  -- STATEMENT: from an accepted new meter, after any events as a program hands them over, one call reads every reply with data, at either
  -- address: all items are in the rows, each as its quantity; only a row that is too short is refused, with 15. Rows of 125 cells have room
  -- for every reply
  pub record WholeAlways : Type 0 where
    pub reads :
        (g : Given) (xs : List Event) → (new_of g).answer ≡ Ok tt → AllTyped xs → (q : ℕ) (p : Poll v g q) (rows : TwoRows) →
        Room (after_all v (new_of g).meter xs) p rows → AllCells (after_all v (new_of g).meter xs) p rows
    pub short :
        (g : Given) (xs : List Event) → (new_of g).answer ≡ Ok tt → AllTyped xs → (q : ℕ) (p : Poll v g q) (rows : TwoRows) →
        NoRoom (after_all v (new_of g).meter xs) p rows → GivesWhole (after_all v (new_of g).meter xs) p rows (refused_by 15)
    pub enough :
        (m : Meter) (g : Given) (q : ℕ) (p : Poll v g q) (rows : TwoRows) → 125 ≤ length rows.values → 125 ≤ length rows.kinds →
        Room m p rows

  -- ---- demand 3, of cells

  -- the cells of register and wrap are of these kinds, they join, and what they come to is within the bounds of the ratio's step
  pub record RegisterCells (h : History v) (e : ℕ) (register : Rows) (i : ℕ) (wrapped : Rows) (j : ℕ) : Type 0 where
    pub whole : WattHours
    pub register_kind : get_or register.kinds i 0 ≡ energy_count
    pub wrap_kind : get_or wrapped.kinds j 0 ≡ wrap
    pub joins :
        join_of h.given.ratios (record { 0 = get_or register.values i 0 }) (get_or wrapped.values j 0) ≡ Ok whole
    pub bounds : Bounds (exact_at v e h) (step_of (t_of h.given.ratios)) whole.0

  -- the cells of Low and High are of these kinds, they join, and what they come to is within the bounds of 1 Wh
  pub record HalvesCells (h : History v) (e : ℕ) (lower : Rows) (i : ℕ) (upper : Rows) (j : ℕ) : Type 0 where
    pub whole : WattHours
    pub low_kind : get_or lower.kinds i 0 ≡ low
    pub high_kind : get_or upper.kinds j 0 ≡ high
    pub joins : join_halves_of (get_or lower.values i 0) (get_or upper.values j 0) ≡ Ok whole
    pub bounds : Bounds (exact_at v e h) 1 whole.0

  -- register and wrap, or Low and High, of an energy are so read by one call each, two meters being asked
  abbrev pub RegisterWhole : History v → ℕ → Meter → Meter → Type 0
  RegisterWhole h e m n =
      (r : Poll v h.given (quantity energy_count e)) (w : Poll v h.given (quantity wrap e)) (a b : TwoRows) → Room m r a → Room n w b →
      RegisterCells h e (read_whole m r a) r.index (read_whole n w b) w.index

  abbrev pub HalvesWhole : History v → ℕ → Meter → Meter → Type 0
  HalvesWhole h e m n =
      (l : Poll v h.given (quantity low e)) (u : Poll v h.given (quantity high e)) (a b : TwoRows) → Room m l a → Room n u b →
      HalvesCells h e (read_whole m l a) l.index (read_whole n u b) u.index

  -- in either order of the two reads
  pub record EnergyCells (h : History v) (e : ℕ) : Type 0 where
    pub register_first : RegisterWhole h e (sooner v h) (later v h)
    pub wrap_first : RegisterWhole h e (later v h) (sooner v h)
    pub low_first : HalvesWhole h e (sooner v h) (later v h)
    pub high_first : HalvesWhole h e (later v h) (sooner v h)

  -- STATEMENT: demand 3, of whole replies: each of the four energies is read so, in any history of events as a program hands them over
  abbrev pub WholeDemand3 : Type 0
  WholeDemand3 = (h : History v) (e : ℕ) → e < 4 → AllTyped h.events → AllTyped h.between → EnergyCells h e
