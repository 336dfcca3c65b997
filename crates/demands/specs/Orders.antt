-- Paper 02, request 5, board and collector together, over histories and through the bytes: who names no order has the lower word first;
-- what is read where both ends name the same order, and where they name different ones.
use Rattle.std.specs.Prelude.{◌≡◌, ◌⊎◌, ℕ, ◌/◌, ◌%◌, List, [], ◌∷◌, map, get_or, replicate, Ok}
use Rattle.refusal.specs.Numbers.{refused_by}
use Rattle.crc.specs.Crc.{sealed}
use Rattle.words.specs.declared.Order.{Order}
use Rattle.words.specs.declared.Order.TheVariants.{UpperFirst, LowerFirst}
use Rattle.words.specs.Words.{sent, exchanged}
use Rattle.ratio.specs.declared.Ratios.{Ratios}
use Rattle.directory.specs.Quantity.{quantity, voltage, L1}
use Rattle.directory.specs.Views.{View}
use Rattle.own.specs.Own.{own}
use Rattle.reading.specs.declared.Quantity.{Quantity}
use Rattle.reading.specs.declared.Quantity.TheVariants as read
use Rattle.reading.specs.declared.Answer.{Answer}
use Rattle.reading.specs.declared.Answer.TheVariants.{Reading}
use Rattle.reading.specs.Told.{kind_of, told}
use Rattle.reading.specs.Cells.{cell_of}
use Rattle.board.specs.Board.{to_second, view_for}
use Rattle.collector.specs.declared.Nameplate.{Nameplate}
use Rattle.collector.specs.Collector.{collector_in, collector_of}
use Rattle.collector.specs.When.{item_at}
use Rattle.collector.specs.Whole.{Rows, whole_in, WholeGives}
use Rattle.meter.specs.declared.samples.Sample.{Sample}
use Rattle.meter.specs.declared.given.Given.{Given}
use Rattle.meter.specs.declared.Meter.{Meter}
use Rattle.meter.specs.Samples.{no_sample}
use Rattle.meter.specs.Meters.{given_of, new_of}
use Rattle.registers.specs.Shown.{shown_of}
use Rattle.demands.specs.Meaning.{meaning_of}
use Rattle.demands.specs.Histories.{Event, after_all, AllTyped}
use Rattle.demands.specs.RoundTrip.{reply_to}
use Rattle.demands.specs.Demand3.{Poll}
use Rattle.demands.specs.Wholes.{TwoRows}
use Rattle.demands.specs.Starred.{Example, gives}

-- ratios, and an order that a collector names
abbrev pub named : Ratios → Order → Nameplate
named ratios o = record { ratios = ratios; order = o }

-- a sample of 100,000 mV on the first phase, else as that of a new meter
abbrev pub volts : Sample
volts =
    record {
      voltages = 100000 ∷ replicate 5 0;
      currents = no_sample.currents;
      p = no_sample.p;
      q = no_sample.q;
      s = no_sample.s;
      factor = no_sample.factor;
      sector = no_sample.sector;
      sequence = no_sample.sequence;
      frequency = no_sample.frequency;
    }

-- ---- over a view: the directory and the most words that reads go by

module _ (v : View) where
  -- ---- a meter that was given so, and a read of an item that shows a quantity

  module _ (m : Meter) {g : Given} {q : ℕ} (p : Poll v g q) where
    -- the words that the item is sent in: 1 for W and B, 2 for L
    abbrev pub width : ℕ
    width = (item_at (view_for v (to_second g p.request)) p.asks p.index).words

    -- the upper word of what is shown
    abbrev upper_word : ℕ
    upper_word = shown_of m q / 65536

    -- and the lower
    abbrev lower_word : ℕ
    lower_word = shown_of m q % 65536

    -- what the collector, told the meter's ratios and some order, makes of the item in the reply
    abbrev pub read_by : Order → Answer
    read_by o = collector_in v p.request (reply_to v m p.request p.buffer) (named g.ratios o) p.index

    -- and of all items, in two rows
    abbrev pub whole_by : Order → TwoRows → Rows
    whole_by o rows = whole_in v p.request (reply_to v m p.request p.buffer) (named g.ratios o) rows.values rows.kinds

    -- another value: one that does not read as the item's quantity
    pub record Another (o : Order) : Type 0 where
      pub reading : Quantity
      pub reads : read_by o ≡ Reading reading
      pub other : reading ≡ meaning_of m q → ⊥

    -- STATEMENT: with one order at both ends an item reads as its quantity; W and B do so whatever order is named, and so does an L whose
    -- two words are equal. An L whose words differ, where different orders are named, never does: it is another value or refused with
    -- 13, and in the rows of a whole reply either its kind or its value is another
    pub record OrdersRead : Type 0 where
      pub same : read_by g.order ≡ Reading (meaning_of m q)
      pub one_word : (o : Order) → width ≡ 1 → read_by o ≡ Reading (meaning_of m q)
      pub equal_words : (o : Order) → width ≡ 2 → upper_word ≡ lower_word → read_by o ≡ Reading (meaning_of m q)
      pub differ :
          (o : Order) → (o ≡ g.order → ⊥) → width ≡ 2 → (upper_word ≡ lower_word → ⊥) →
          (told (read_by o) ≡ refused_by 13) ⊎ Another o
      pub cells_differ :
          (o : Order) (rows : TwoRows) → (o ≡ g.order → ⊥) → width ≡ 2 → (upper_word ≡ lower_word → ⊥) →
          WholeGives v p.request (reply_to v m p.request p.buffer) (named g.ratios o) rows.values rows.kinds
          (0 ∷ p.asks.count ∷ []) →
          get_or (whole_by o rows).kinds p.index 0 ≡ kind_of (meaning_of m q) →
          get_or (whole_by o rows).values p.index 0 ≡ cell_of (meaning_of m q) → ⊥

  -- STATEMENT: so it is of every accepted new meter, after any events as a program hands them over, and of every item, at either address. A
  -- meter has the order that it was given, which is the lower word first where none was named, and keeps it
  pub record OrdersAlways : Type 0 where
    pub unnamed : (address : ℕ) (ratios : Ratios) → (new_of (given_of address ratios)).meter.given.order ≡ LowerFirst
    pub kept : (g : Given) (xs : List Event) → (after_all v (new_of g).meter xs).given.order ≡ g.order
    pub reads :
        (g : Given) (xs : List Event) → (new_of g).answer ≡ Ok tt → AllTyped xs → (q : ℕ) (p : Poll v g q) →
        OrdersRead (after_all v (new_of g).meter xs) p

  -- a new meter after this sample
  abbrev pub sampled : Given → Meter
  sampled g = after_all v (new_of g).meter (Event.sample volts ∷ [])

  -- STATEMENT: none of this is empty: on every accepted new meter these 100,000 mV are read, wherever they stand, where both ends name the
  -- same order, and from an L 2,258,632,705 mV where they name different ones
  pub record VoltsRead : Type 0 where
    pub same :
        (g : Given) → (new_of g).answer ≡ Ok tt → (p : Poll v g (quantity voltage L1)) →
        read_by (sampled g) p g.order ≡ Reading (read.Voltage 100000)
    pub other :
        (g : Given) → (new_of g).answer ≡ Ok tt → (p : Poll v g (quantity voltage L1)) (o : Order) → (o ≡ g.order → ⊥) →
        width (sampled g) p ≡ 2 → read_by (sampled g) p o ≡ Reading (read.Voltage 2258632705)

-- STATEMENT: in paper 01's own directory there is such a read for every accepted new meter, and an order that is not its own
pub record VoltsPolled : Type 0 where
  pub long : (g : Given) → (new_of g).answer ≡ Ok tt → (p : Poll own g (quantity voltage L1)) × (width own (sampled own g) p ≡ 2)
  pub another : (g : Given) → (o : Order) × (o ≡ g.order → ⊥)

-- ---- examples

-- the request for the first voltage, and the reply to it with two words of data
abbrev voltage_by : List ℕ → Order → List ℕ
voltage_by words o =
    told
    (collector_of (sealed (0x01 ∷ 0x03 ∷ 0x03 ∷ 0x01 ∷ 0x00 ∷ 0x02 ∷ [])) (sealed (0x01 ∷ 0x03 ∷ 0x04 ∷ words))
    (named (record { kta = 1; ktv = 10 }) o) 0)

-- the request for the count of +Ea at 0x101c, and the reply to it with two words of data
abbrev count_by : List ℕ → Order → List ℕ
count_by words o =
    told
    (collector_of (sealed (0x01 ∷ 0x03 ∷ 0x10 ∷ 0x1C ∷ 0x00 ∷ 0x02 ∷ [])) (sealed (0x01 ∷ 0x03 ∷ 0x04 ∷ words))
    (named (record { kta = 1; ktv = 10 }) o) 0)

-- an L in both orders
unfoldable pub ordered : List Example
ordered =
    -- 100,000 mV as it is sent, and as it is read where both ends name that order
    gives (sent UpperFirst 2 100000) (0x00 ∷ 0x01 ∷ 0x86 ∷ 0xA0 ∷ []) ∷
    gives (sent LowerFirst 2 100000) (0x86 ∷ 0xA0 ∷ 0x00 ∷ 0x01 ∷ []) ∷
    gives (voltage_by (0x00 ∷ 0x01 ∷ 0x86 ∷ 0xA0 ∷ []) UpperFirst) (0 ∷ 1 ∷ 100000 ∷ []) ∷
    gives (voltage_by (0x86 ∷ 0xA0 ∷ 0x00 ∷ 0x01 ∷ []) LowerFirst) (0 ∷ 1 ∷ 100000 ∷ []) ∷
    -- where they name different ones: another value
    gives (voltage_by (0x00 ∷ 0x01 ∷ 0x86 ∷ 0xA0 ∷ []) LowerFirst) (0 ∷ 1 ∷ 2258632705 ∷ []) ∷
    -- count 1,526 read so is 100,007,936, which is over 99,999,999: 13; 1,525 is another count
    gives (exchanged 1526 ∷ []) (100007936 ∷ []) ∷
    gives (count_by (sent UpperFirst 2 1526) UpperFirst) (0 ∷ 5 ∷ 1526 ∷ 10 ∷ 15260 ∷ []) ∷
    gives (count_by (sent UpperFirst 2 1526) LowerFirst) (refused_by 13) ∷
    gives (count_by (sent UpperFirst 2 1525) LowerFirst) (0 ∷ 5 ∷ 99942400 ∷ 10 ∷ 999424000 ∷ []) ∷
    -- 65,537 has equal words
    gives (count_by (sent UpperFirst 2 65537) LowerFirst) (0 ∷ 5 ∷ 65537 ∷ 10 ∷ 655370 ∷ []) ∷
    []

-- STATEMENT: the definitions give this, example by example
pub record OrderExamples : Type 0 where
  pub agree : map (λ (x : Example). x.given) ordered ≡ map (λ (x : Example). x.says) ordered
