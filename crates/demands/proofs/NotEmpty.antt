-- A history is made of what it asks for, and the read of one item polls it; after typed events a record is as a program holds it, so the round trip holds of it.
use Rattle.std.specs.Prelude.{Ok}
use mathlib.Core.Path.{◌≡◌, refl, ap, ◌∙◌}
use mathlib.Core.Logic.{inl, inr}
use mathlib.Core.Bool.{Bool, true, false}
use mathlib.Core.List.{List, [], ◌∷◌}
use Prim.Native.Nat.{ℕ, ◌+◌, ◌≤◌, ◌<◌}
use native.Mathlib.Nat.{pos_of_ne-zero}
use native.Mathlib.Omega.{arith}
use lib.Dec.{T}
use lib.ListN.{length, get_or, replicate}
use Rattle.directory.specs.Item.{none}
use Rattle.directory.specs.Views.{View, passes}
use Rattle.directory.specs.Tenant.{tenant_of}
use Rattle.modbus.specs.Read.{read_in}
use Rattle.meter.specs.declared.given.Given.{Given}
use Rattle.meter.specs.declared.Meter.{Meter}
use Rattle.meter.specs.Samples.{no_sample}
use Rattle.meter.specs.Meters.{meter_ok, new_of}
use Rattle.registers.specs.Typed.{Typed}
use Rattle.meter.proofs.Accepts.{made_within, new_blank, new_answers}
use Rattle.board.specs.Board.{to_second, view_for}
use Rattle.demands.specs.RoundTrip.{Names}
use Rattle.demands.specs.Polled.{request_for}
use Rattle.demands.specs.Histories.{Event, after_event, after_all, any_taken, AllTyped}
use Rattle.demands.specs.Histories.AllTyped.{more, none as nothing}
use Rattle.demands.specs.NotEmpty.{frames, ItemPoll, NotEmpty, ReadsAlways}
use Rattle.demands.proofs.Seen.{to_second_lem, to_own, part_passes}
use Rattle.demands.proofs.Polls.{typed_reads}
use Rattle.demands.proofs.Polled.{asked_alone}
use Rattle.demands.proofs.Histories.{after_events}
use Rattle.demands.proofs.Types.{zeros, blank_sample, types_kept}

module _ (v : View) (good : T (passes v)) where
  -- a frame is no sample
  idle : (m : Meter) (buffer : List ℕ) (fs : List (List ℕ)) → any_taken v m (frames buffer fs) ≡ false
  unfolding any_taken
  idle m buffer [] = refl
  idle m buffer (f ∷ fs) = idle (after_event v m (Event.frame f buffer)) buffer fs

  -- the read of one item, over what the address named sees
  one_item : (tenant : Bool) (g : Given) (address i : ℕ) → 1 ≤ address → i < length (view_for v tenant).seen → to_second g (request_for address (get_or (view_for v tenant).seen i none)) ≡ tenant → Names g (request_for address (get_or (view_for v tenant).seen i none)) → ItemPoll v (view_for v tenant) g address i
  one_item tenant g address i some l whose named =
      let request = request_for address (get_or (view_for v tenant).seen i none) in
      let same : to_second g request ≡ tenant = whose in (
        record {
          request = request;
          buffer = replicate 256 0;
          index = 0;
          asks = record {
            hears = (asked_alone (view_for v tenant) (part_passes v good tenant) address i some l).hears;
            first = i;
            count = 1;
            items = ap (λ (t : Bool). read_in (view_for v t) request) same ∙ (asked_alone (view_for v tenant) (part_passes v good tenant) address i some l).items;
          };
          named = named;
          room = omega arith;
          below = omega arith;
          shows = λ j. (get_or (view_for v (same j)).seen (at j) none).quantity;
        },
        omega arith,
        refl,
      )
    where
      at : i + 0 ≡ i
      at = omega arith

  poll : (g : Given) (i : ℕ) → (new_of g).answer ≡ Ok tt → i < length v.seen → ItemPoll v v g g.address i
  poll g i made l =
      let known = (new_answers g).accepted.0 made in
      let request = request_for g.address (get_or v.seen i none) in
      one_item false g g.address i (pos_of_ne-zero known.1) l (to_own g request known.2 refl) (inl refl)

  tenant_poll : (g : Given) (i : ℕ) → (new_of g).answer ≡ Ok tt → (g.second ≡ 0 → ⊥) → i < length (tenant_of v).seen → ItemPoll v (tenant_of v) g g.second i
  tenant_poll g i made some l =
      let whose = to_second_lem g (request_for g.second (get_or (tenant_of v).seen i none)) some refl in
      one_item true g g.second i (pos_of_ne-zero some) l whose (inr whose)

  pub not_empty : NotEmpty v
  not_empty = record {
    history = λ g events between made still. (record { given = g; made = made; events = events; between = between; idle = still }, refl, refl, refl);
    idle = idle;
    poll = poll;
    tenant_poll = tenant_poll;
    typed = more {x = Event.sample no_sample} blank_sample (more {x = Event.frame (0 ∷ []) []} (λ i. zeros 1 256 i (omega arith)) nothing);
  }

  -- ---- the round trip over histories

  -- a meter within limits, as a program holds it
  pub record Held (g : Given) (m : Meter) : Type 0 where
    pub within : meter_ok m ≡ true
    pub given : m.given ≡ g
    pub typed : Typed m

  pub new_held : (g : Given) → (new_of g).answer ≡ Ok tt → Held g (new_of g).meter
  new_held g made = record { within = made_within g made; given = ap (λ (x : Meter). x.given) (new_blank g); typed = (types_kept v good).new g }

  pub after_held : (g : Given) (m : Meter) (xs : List Event) → Held g m → AllTyped xs → Held g (after_all v m xs)
  after_held g m xs h typed = record {
    within = (after_events v good).within m xs h.within;
    given = (after_events v good).given m xs ∙ h.given;
    typed = (types_kept v good).events m xs h.typed typed;
  }

  pub reads_always : ReadsAlways v
  reads_always = record {
    polls = λ g xs made typed q p. let h = after_held g (new_of g).meter xs (new_held g made) typed in typed_reads v good (after_all v (new_of g).meter xs) h.within h.given p h.typed;
  }
