-- What is sent in one order and read in the other has its words exchanged; as no two values of an L read as the same, it is read as its
-- quantity exactly where they are equal.
use Rattle.std.specs.Prelude.{Ok}
use mathlib.Core.Path.{◌≡◌, refl, sym, ap, ap₂, subst, ◌∙◌}
use mathlib.Core.Logic.{◌⊎◌, inl, inr}
use mathlib.Core.Bool.{Bool, true, false, ◌&&◌}
use mathlib.Core.List.{List, [], ◌∷◌, ◌++◌, map}
use Prim.Native.Nat.{ℕ, zero, suc, ◌+◌, ◌/◌, ◌%◌, ◌^◌, ◌≤◌, ◌<◌}
use native.Mathlib.Omega.{arith}
use lib.Dec.{T, leb}
use lib.ListN.{length, get_or}
use borrow.Author.Tests.{eq-eqb}
use Rattle.refusal.specs.Numbers.{refused_by}
use Rattle.words.specs.declared.Order.{Order}
use Rattle.words.specs.declared.Order.TheVariants.{UpperFirst, LowerFirst}
use Rattle.words.specs.Words.{sent, value_at, exchanged}
use Rattle.words.proofs.Laws.{read_back_lem, orders}
use Rattle.ratio.specs.Ratios.{t_of}
use Rattle.directory.specs.declared.Item.{Item}
use Rattle.directory.specs.Item.{none as no_item, is_b}
use Rattle.directory.specs.Quantity.{quantity, voltage, L1}
use Rattle.directory.specs.Run.{is_l}
use Rattle.directory.specs.Views.{View, passes}
use Rattle.directory.proofs.Shapes.{shape}
use Rattle.directory.proofs.Rules.{directory_rules}
use Rattle.directory.proofs.Views.{passes_tested}
use Rattle.own.specs.Table.{directory}
use Rattle.own.specs.Own.{own}
use Rattle.own.proofs.Rules.{own_passes}
use Rattle.reading.specs.declared.Quantity.{Quantity}
use Rattle.reading.specs.declared.Quantity.TheVariants as read
use Rattle.reading.specs.declared.Answer.TheVariants.{Reading}
use Rattle.reading.specs.Told.{kind_of, told}
use Rattle.reading.specs.Readings.{thirteen, reading_of}
use Rattle.reading.specs.Cells.{cell_of, read_back}
use Rattle.reading.proofs.ByKind.{answer_at, by_kind}
use Rattle.reading.proofs.Cells.{reading_back}
use Rattle.reading.proofs.Apart.{apart}
use Rattle.board.specs.Board.{to_second, view_for}
use Rattle.collector.specs.When.{item_at}
use Rattle.collector.proofs.When.{impossible, possible}
use Rattle.collector.proofs.OneByOne.{one_by_one}
use Rattle.meter.specs.declared.samples.Sample.{Sample}
use Rattle.meter.specs.declared.given.Given.{Given}
use Rattle.meter.specs.declared.Meter.{Meter}
use Rattle.meter.specs.Meters.{meter_t, given_of, new_of}
use Rattle.meter.specs.Samples.{sample_ok}
use Rattle.meter.proofs.Accepts.{new_blank, made_within, sample_answers}
use Rattle.meter.proofs.Parts.{meter_parts}
use Rattle.registers.specs.Shown.{shown_of}
use Rattle.registers.specs.Typed.{SampleTyped}
use Rattle.demands.specs.Meaning.{meaning_of}
use Rattle.demands.specs.Histories.{Event, after_all}
use Rattle.demands.specs.Histories.AllTyped.{none, more}
use Rattle.demands.specs.RoundTrip.{reply_to}
use Rattle.demands.specs.Demand3.{Poll}
use Rattle.demands.specs.Orders.{named, volts, read_by, Another, OrdersRead, OrdersAlways, sampled, VoltsRead, VoltsPolled}
use Rattle.demands.proofs.Histories.{after_events}
use Rattle.demands.proofs.NotEmpty.{not_empty, Held, new_held, after_held}
use Rattle.demands.proofs.Types.{zeros, blank_sample}
use Rattle.demands.proofs.ShutOut.{shut_out}
use Rattle.demands.proofs.Polls.{read_other, polled_item, same_item, shows_it, poll_read_as, known_item, fits_words, item_means, typed_reads}

-- two orders are the same, or they are not
abbrev order_number : Order → ℕ
order_number UpperFirst = 0
order_number LowerFirst = 1

either : (o p : Order) → (o ≡ p) ⊎ (o ≡ p → ⊥)
either UpperFirst UpperFirst = inl refl
either LowerFirst LowerFirst = inl refl
either UpperFirst LowerFirst = inr (λ e. let z = ap order_number e in omega (arith, z))
either LowerFirst UpperFirst = inr (λ e. let z = ap order_number e in omega (arith, z))

-- the sample of 100,000 mV is one that a program can hand over
volts_typed : SampleTyped volts
volts_typed = record { voltages = refl; currents = refl; voltage = first; current = blank_sample.current; frequency = omega arith }
  where
    first : (i : ℕ) → get_or volts.voltages i 0 < 256 ^ 4
    first zero = omega arith
    first (suc i) = zeros 5 (256 ^ 4) i (omega arith)

module _ (v : View) (good : T (passes v)) where
  module _ (m : Meter) {g : Given} (held : Held v good g m) {q : ℕ} (p : Poll v g q) where
    abbrev it : Item
    it = polled_item v good m held.within held.given p

    abbrev x : ℕ
    x = shown_of m it.quantity

    abbrev t : ℕ
    t = meter_t m

    shown : x ≡ shown_of m q
    shown = ap (shown_of m) (shows_it v good m held.within held.given p)

    means : reading_of t it x ≡ Reading (meaning_of m q)
    means = item_means v good m held.within held.given p held.typed ∙ ap (λ (k : ℕ). Reading (meaning_of m k)) (shows_it v good m held.within held.given p)

    same : read_by v m p g.order ≡ Reading (meaning_of m q)
    same = typed_reads v good m held.within held.given p held.typed

    one_word : (o : Order) → it.words ≡ 1 → read_by v m p o ≡ Reading (meaning_of m q)
    one_word o w = poll_read_as v good m held.within held.given p o x back ∙ means
      where
        back : (before after : List ℕ) → value_at o it.words (before ++ sent m.given.order it.words x ++ after) (length before) ≡ x
        back before after =
            (λ i. value_at o (w i) (before ++ sent m.given.order (w i) x ++ after) (length before))
            ∙ ap (λ (l : List ℕ). value_at o 1 (before ++ l ++ after) (length before)) (orders.one_sent m.given.order o x)
            ∙ read_back_lem.between o 1 x before after (subst (λ (n : ℕ). x < 65536 ^ n) w (fits_words v good m held.within held.given p held.typed))

    -- ---- an L

    module _ (w : it.words ≡ 2) where
      fits : x < 65536 ^ 2
      fits = subst (λ (n : ℕ). x < 65536 ^ n) w (fits_words v good m held.within held.given p held.typed)

      exchanged_fits : exchanged x < 65536 ^ 2
      exchanged_fits = omega (arith, fits)

      -- told the other order
      turned : (o : Order) → (o ≡ g.order → ⊥) → read_by v m p o ≡ reading_of t it (exchanged x)
      turned o d =
          poll_read_as v good m held.within held.given p o (exchanged x)
          (read_other o m.given.order it.words x w (fits_words v good m held.within held.given p held.typed) (λ e. d (sym e ∙ ap (λ (y : Given). y.order) held.given)))

      equal_words : (o : Order) → x / 65536 ≡ x % 65536 → read_by v m p o ≡ Reading (meaning_of m q)
      equal_words o e = by (either o g.order)
        where
          by : (o ≡ g.order) ⊎ (o ≡ g.order → ⊥) → read_by v m p o ≡ Reading (meaning_of m q)
          by (inl s) = ap (read_by v m p) s ∙ same
          by (inr d) = turned o d ∙ ap (reading_of t it) ((orders.same x fits).1 e) ∙ means

      long : is_l it ≡ true
      long = eq-eqb it.words 2 w

      -- where the words differ, it does not read as the quantity
      not_read : (x / 65536 ≡ x % 65536 → ⊥) → reading_of t it (exchanged x) ≡ Reading (meaning_of m q) → ⊥
      not_read d e = d ((orders.same x fits).0 (apart t it long (exchanged x) x exchanged_fits fits (meaning_of m q) e means))

      differ : (o : Order) → (o ≡ g.order → ⊥) → (x / 65536 ≡ x % 65536 → ⊥) → (told (read_by v m p o) ≡ refused_by 13) ⊎ Another v m p o
      differ o d apart_words = by (thirteen it (exchanged x)) refl
        where
          by : (b : Bool) → thirteen it (exchanged x) ≡ b → (told (read_by v m p o) ≡ refused_by 13) ⊎ Another v m p o
          by true e = inl (ap told (turned o d ∙ impossible t it (exchanged x) e))
          by false e =
              let is = possible t it (exchanged x) e in
              inr (record { reading = _; reads = turned o d ∙ is; other = λ s. not_read apart_words (is ∙ ap Reading s) })

      few : it.words ≤ 2
      few = omega (arith, w)

      cells_differ : (o : Order) → (o ≡ g.order → ⊥) → (x / 65536 ≡ x % 65536 → ⊥) → (r : Quantity) → read_by v m p o ≡ Reading r → kind_of r ≡ kind_of (meaning_of m q) → cell_of r ≡ cell_of (meaning_of m q) → ⊥
      cells_differ o d apart_words r e k c =
          let read : reading_of t it (exchanged x) ≡ Reading r = sym (turned o d) ∙ e in
          let there = reading_back t it (exchanged x) few (subst (λ (n : ℕ). exchanged x < 65536 ^ n) (sym w) exchanged_fits) r read in
          let here = reading_back t it x few (subst (λ (n : ℕ). x < 65536 ^ n) (sym w) fits) (meaning_of m q) means in
          not_read apart_words (read ∙ ap Reading (sym there.back ∙ ap₂ (read_back t) k c ∙ here.back))

    -- the words that it is sent in
    wide : {n : ℕ} → (item_at (view_for v (to_second g p.request)) p.asks p.index).words ≡ n → it.words ≡ n
    wide w = sym (ap (λ (i : Item). i.words) (same_item v good m held.within held.given p)) ∙ w

    -- and what stands in the two words
    halves : {n k : ℕ} → n ≡ k → (n / 65536 ≡ n % 65536) → k / 65536 ≡ k % 65536
    halves e h = subst (λ (y : ℕ). y / 65536 ≡ y % 65536) e h

    pub orders_read : OrdersRead v m p
    orders_read = record {
      same = same;
      one_word = λ o w. one_word o (wide w);
      equal_words = λ o w e. equal_words (wide w) o (halves (sym shown) e);
      differ = λ o d w a. differ (wide w) o d (λ e. a (halves shown e));
      cells_differ = λ o rows d w a all k c.
          let cells = (one_by_one v good p.request (reply_to v m p.request p.buffer) (named g.ratios o) rows.values rows.kinds).each p.asks.count all p.index p.below in
          cells_differ (wide w) o d (λ e. a (halves shown e)) cells.reading cells.given (sym cells.kind ∙ k) (sym cells.value ∙ c);
    }

  pub orders_always : OrdersAlways v
  orders_always = record {
    unnamed = λ address ratios. ap (λ (m : Meter). m.given.order) (new_blank (given_of address ratios));
    kept = λ g xs. ap (λ (y : Given). y.order) ((after_events v good).given (new_of g).meter xs ∙ ap (λ (m : Meter). m.given) (new_blank g));
    reads = λ g xs made typed q p. orders_read (after_all v (new_of g).meter xs) (after_held v good g (new_of g).meter xs (new_held v good g made) typed) p;
  }

  -- ---- a sample of 100,000 mV, which every new meter accepts

  module _ (g : Given) (made : (new_of g).answer ≡ Ok tt) where
    volts_ok : sample_ok (t_of g.ratios) volts ≡ true
    unfolding sample_ok
    volts_ok = ap (λ (m : Meter). sample_ok (meter_t m) m.latest) (sym (new_blank g)) ∙ (meter_parts (new_of g).meter (made_within g made)).latest

    latest : (sampled v g).latest ≡ volts
    unfolding after_all
    latest = ap (λ (m : Meter). m.latest) ((sample_answers (new_of g).meter volts).counted ((shut_out v good).takes g volts made volts_ok))

    sampled_held : Held v good g (sampled v g)
    sampled_held = after_held v good g (new_of g).meter (Event.sample volts ∷ []) (new_held v good g made) (more {x = Event.sample volts} volts_typed none)

    module _ (p : Poll v g (quantity voltage L1)) where
      volts_shown : shown_of (sampled v g) (quantity voltage L1) ≡ 100000
      unfolding shown_of
      volts_shown = ap (λ (s : Sample). get_or s.voltages 0 0) latest

      volts_same : read_by v (sampled v g) p g.order ≡ Reading (read.Voltage 100000)
      unfolding meaning_of
      volts_same = same (sampled v g) sampled_held p ∙ ap (λ (s : Sample). Reading (get_or (map (λ (x : ℕ). read.Voltage x) s.voltages) 0 (read.Plain 0))) latest

      -- an L of that kind reads as it is
      as_it_is : (it (sampled v g) sampled_held p).words ≡ 2 → (x : ℕ) → reading_of (meter_t (sampled v g)) (it (sampled v g) sampled_held p) x ≡ Reading (read.Voltage x)
      as_it_is w x =
          let i = it (sampled v g) sampled_held p in
          let kind : i.quantity / 64 ≡ 1 = ap (λ (n : ℕ). n / 64) (shows_it v good (sampled v g) sampled_held.within sampled_held.given p) in
          let place = known_item v good (sampled v g) sampled_held.within sampled_held.given p sampled_held.typed in
          let whole : is_b i ≡ false = (shape i ((directory_rules v.seen (passes_tested v good)).shapes (p.asks.first + p.index) place)).long (eq-eqb i.words 2 w) in
          by_kind (meter_t (sampled v g)) i x (omega (arith, kind)) (ap (λ (b : Bool). b && leb 256 x) whole) ∙ ap (answer_at (meter_t (sampled v g)) i x) kind

      volts_other : (o : Order) → (o ≡ g.order → ⊥) → (it (sampled v g) sampled_held p).words ≡ 2 → read_by v (sampled v g) p o ≡ Reading (read.Voltage 2258632705)
      volts_other o d w =
          turned (sampled v g) sampled_held p w o d
          ∙ as_it_is w (exchanged (x (sampled v g) sampled_held p))
          ∙ ap (λ (n : ℕ). Reading (read.Voltage (exchanged n))) (shown (sampled v g) sampled_held p ∙ volts_shown)

  pub volts_read : VoltsRead v
  volts_read = record {
    same = λ g made p. volts_same g made p;
    other = λ g made p o d w. volts_other g made p o d (wide (sampled v g) (sampled_held g made) p w);
  }

-- ---- in paper 01's own directory: its fourth item, at 0x0301

pub volts_polled : VoltsPolled
unfolding directory
volts_polled = record {
  long = λ g made.
      let polled = (not_empty own own_passes.passed).poll g 3 made (omega arith) in
      let p = polled.0 in
      let held = sampled_held own own_passes.passed g made in
      (p, ap (λ (i : Item). i.words) (same_item own own_passes.passed (sampled own g) held.within held.given p) ∙ ap (λ (n : ℕ). (get_or own.seen n no_item).words) polled.1);
  another = λ g. by g.order;
}
  where
    by : (p : Order) → (o : Order) × (o ≡ p → ⊥)
    by UpperFirst = (LowerFirst, λ e. let z = ap order_number e in omega (arith, z))
    by LowerFirst = (UpperFirst, λ e. let z = ap order_number e in omega (arith, z))
