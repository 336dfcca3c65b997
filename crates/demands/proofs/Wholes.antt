-- Each item that a poll asks for is read as its quantity, so none is refused and all stand in the rows; the cells of an energy are what the
-- collector reads of it one by one.
use Rattle.refusal.specs.declared.ErrorCode.{ErrorCode}
use Rattle.std.specs.Prelude.{Err, Ok, Result}
use mathlib.Core.Path.{◌≡◌, refl, sym, ap, ap₂, ◌∙◌}
use mathlib.Core.Logic.{◌⊎◌, inl, inr}
use mathlib.Core.List.{List, [], ◌∷◌}
use Prim.Native.Nat.{ℕ, ◌≤◌, ◌<◌}
use native.Mathlib.Omega.{arith}
use lib.Dec.{T}
use lib.ListN.{length, get_or}
use Rattle.refusal.specs.Numbers.{refused_by}
use Rattle.counts.specs.Counting.{join_of, join_halves_of}
use Rattle.directory.specs.declared.Span.{Span}
use Rattle.directory.specs.Quantity.{quantity, energy_count, wrap, low, high}
use Rattle.directory.specs.Order.{shaped}
use Rattle.directory.specs.Run.{run_items, span}
use Rattle.directory.specs.Views.{View, passes}
use Rattle.directory.proofs.Order.{every_run}
use Rattle.directory.proofs.Views.{tested_shaped, passes_tested, passes_room}
use Rattle.modbus.proofs.Judged.{legal_read}
use Rattle.reading.specs.declared.Quantity.{Quantity}
use Rattle.reading.specs.declared.Answer.TheVariants.{Reading}
use Rattle.reading.specs.Told.{kind_of}
use Rattle.reading.specs.Cells.{cell_of}
use Rattle.reading.proofs.Cells.{quantity_in}
use Rattle.board.specs.Board.{to_second}
use Rattle.collector.specs.Collector.{collector_in}
use Rattle.collector.specs.When.{Fits, asked_by}
use Rattle.collector.specs.Whole.{CellsOf}
use Rattle.collector.proofs.Places.{run_length}
use Rattle.collector.proofs.Rows.{few_items}
use Rattle.collector.proofs.When.{replies_when}
use Rattle.collector.proofs.OneByOne.{whole_when, one_by_one, all_given}
use Rattle.meter.specs.declared.given.Given.{Given}
use Rattle.meter.specs.declared.Meter.{Meter}
use Rattle.meter.specs.Meters.{new_of}
use Rattle.demands.specs.Meaning.{meaning_of}
use Rattle.demands.specs.RoundTrip.{plate_of, reply_to}
use Rattle.demands.specs.Histories.{after_all}
use Rattle.demands.specs.Demand3.{History, sooner, later, Poll, collected, RegisterRead, HalvesRead}
use Rattle.demands.specs.Wholes.{TwoRows, read_whole, GivesWhole, quantity_at, Room, NoRoom, AllCells, WholeAlways, RegisterWhole, HalvesWhole, WholeDemand3}
use Rattle.demands.proofs.Polls.{asked_whole, typed_reads}
use Rattle.demands.proofs.NotEmpty.{Held, new_held, after_held}
use Rattle.demands.proofs.Demand3.{demand_3}

-- how many items a read asks for
abbrev counted : Result Span ErrorCode → ℕ
counted (Ok asked) = asked.count
counted (Err code) = 0

module _ (v : View) (good : T (passes v)) where
  module _ (m : Meter) {g : Given} (held : Held v good g m) {q : ℕ} (p : Poll v g q) (rows : TwoRows) where
    abbrev reply : List ℕ
    reply = reply_to v m p.request p.buffer

    abbrev n : ℕ
    n = p.asks.count

    -- the same request, for another of its items
    at : (index : ℕ) → index < n → Poll v g (quantity_at v m p rows index)
    at index b = record { request = p.request; buffer = p.buffer; index = index; asks = p.asks; named = p.named; room = p.room; below = b; shows = refl }

    reads : (index : ℕ) → index < n → collector_in v p.request reply (plate_of g) index ≡ Reading (meaning_of m (quantity_at v m p rows index))
    unfolding at
    reads index b = typed_reads v good m held.within held.given (at index b) held.typed

    -- the reply fits
    fits : Fits v p.request reply g.ratios
    fits = (((replies_when v good p.request reply (plate_of g) p.index).reading (meaning_of m (quantity_at v m p rows p.index))).0 (reads p.index p.below)).holds.fits

    -- and the items are those asked for
    same : (asked_by v fits).count ≡ n
    same = ap counted (sym (asked_by v fits).items ∙ (asked_whole v good (to_second g p.request) p.asks).items)

    all : Room v m p rows → GivesWhole v m p rows (0 ∷ n ∷ [])
    all room =
        let a = all_given v good p.request reply (plate_of g) rows.values rows.kinds fits (omega (arith, same, room.values_room)) (omega (arith, same, room.kinds_room)) (λ i b. (_, reads i (omega (arith, b, same)))) in
        ((whole_when v good p.request reply (plate_of g) rows.values rows.kinds).items (asked_by v fits).count).1 a ∙ ap (λ (k : ℕ). 0 ∷ k ∷ []) same

    -- the cells of an item are those of its reading
    cells : Room v m p rows → (index : ℕ) → index < n → CellsOf v p.request reply (plate_of g) rows.values rows.kinds index
    cells room index b = (one_by_one v good p.request reply (plate_of g) rows.values rows.kinds).each n (all room) index b

    cells_are : (room : Room v m p rows) (index : ℕ) (b : index < n) (x : Quantity) → collector_in v p.request reply (plate_of g) index ≡ Reading x → (get_or (read_whole v m p rows).values index 0 ≡ cell_of x) × (get_or (read_whole v m p rows).kinds index 0 ≡ kind_of x)
    cells_are room index b x h =
        let c = cells room index b in
        let is : c.reading ≡ x = ap (quantity_in x) (sym c.given ∙ h) in
        (c.value ∙ ap cell_of is, c.kind ∙ ap kind_of is)

    all_cells : Room v m p rows → AllCells v m p rows
    all_cells room = record {
      items = all room;
      values = λ index b. (cells_are room index b _ (reads index b)).0;
      kinds = λ index b. (cells_are room index b _ (reads index b)).1;
    }

    short : NoRoom v m p rows → GivesWhole v m p rows (refused_by 15)
    short none = (whole_when v good p.request reply (plate_of g) rows.values rows.kinds).row_15.1 (record { fits = fits; short = by none })
      where
        by : NoRoom v m p rows → (length rows.values < (asked_by v fits).count) ⊎ (length rows.kinds < (asked_by v fits).count)
        by (inl h) = inl (omega (arith, h, same))
        by (inr h) = inr (omega (arith, h, same))

  -- a reply has at most 125 words, and an item one at the least
  few : {g : Given} {q : ℕ} (p : Poll v g q) → p.asks.count ≤ 125
  few {g} p =
      let a = asked_whole v good (to_second g p.request) p.asks in
      let l = legal_read v good a.items in
      let its = run_items v.seen a.first a.count in
      let some = few_items its (every_run shaped v.seen a.first a.count (tested_shaped v.seen (passes_tested v good))) in
      omega (arith, some, run_length v.seen a.first a.count l.inside, l.sends, l.most, passes_room v good)

  pub whole_always : WholeAlways v
  whole_always = record {
    reads = λ g xs made typed q p rows room. all_cells (after_all v (new_of g).meter xs) (after_held v good g (new_of g).meter xs (new_held v good g made) typed) p rows room;
    short = λ g xs made typed q p rows none. short (after_all v (new_of g).meter xs) (after_held v good g (new_of g).meter xs (new_held v good g made) typed) p rows none;
    enough = λ m g q p rows a b. record { values_room = omega (arith, few p, a); kinds_room = omega (arith, few p, b) };
  }

  -- ---- demand 3, of cells

  module _ (h : History v) (e : ℕ) (m n : Meter) (first : Held v good h.given m) (second : Held v good h.given n) where
    register_whole : ((r : Poll v h.given (quantity energy_count e)) (w : Poll v h.given (quantity wrap e)) → RegisterRead v h e (collected v m r) (collected v n w)) → RegisterWhole v h e m n
    register_whole one r w a b ra rb =
        let t = one r w in
        let x = cells_are m first r a ra r.index r.below _ t.reads in
        let y = cells_are n second w b rb w.index w.below _ t.wraps in
        record {
          whole = t.whole;
          register_kind = x.1;
          wrap_kind = y.1;
          joins = ap₂ (λ (c k : ℕ). join_of h.given.ratios (record { 0 = c }) k) x.0 y.0 ∙ t.joins;
          bounds = t.bounds;
        }

    halves_whole : ((l : Poll v h.given (quantity low e)) (u : Poll v h.given (quantity high e)) → HalvesRead v h e (collected v m l) (collected v n u)) → HalvesWhole v h e m n
    halves_whole one l u a b ra rb =
        let t = one l u in
        let x = cells_are m first l a ra l.index l.below _ t.reads in
        let y = cells_are n second u b rb u.index u.below _ t.heads in
        record { whole = t.whole; low_kind = x.1; high_kind = y.1; joins = ap₂ join_halves_of x.0 y.0 ∙ t.joins; bounds = t.bounds }

  pub whole_demand_3 : WholeDemand3 v
  whole_demand_3 h e four events between =
      let d = demand_3 v good h e four in
      let s = after_held v good h.given (new_of h.given).meter h.events (new_held v good h.given h.made) events in
      let l = after_held v good h.given (sooner v h) h.between s between in
      record {
        register_first = register_whole h e (sooner v h) (later v h) s l d.register_first;
        wrap_first = register_whole h e (later v h) (sooner v h) l s d.wrap_first;
        low_first = halves_whole h e (sooner v h) (later v h) s l d.low_first;
        high_first = halves_whole h e (later v h) (sooner v h) l s d.high_first;
      }
