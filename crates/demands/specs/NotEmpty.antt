-- What `Demand3` and the other statements over histories ask for can be had, for every accepted new meter, any events, every item and
-- every address: so they are not claims about nothing.
use Rattle.std.specs.Prelude.{◌≡◌, ℕ, ◌+◌, ◌<◌, false, List, [], ◌∷◌, map, length, get_or, Ok}
use Rattle.directory.specs.Item.{none}
use Rattle.directory.specs.Views.{View}
use Rattle.directory.specs.Tenant.{tenant_of}
use Rattle.modbus.specs.Frame.{address_of}
use Rattle.reading.specs.declared.Answer.TheVariants.{Reading}
use Rattle.meter.specs.declared.given.Given.{Given}
use Rattle.meter.specs.declared.Meter.{Meter}
use Rattle.meter.specs.Samples.{no_sample}
use Rattle.meter.specs.Meters.{new_of}
use Rattle.demands.specs.Meaning.{meaning_of}
use Rattle.demands.specs.Histories.{Event, after_all, any_taken, AllTyped}
use Rattle.demands.specs.Demand3.{History, Poll, collected}

-- frames, each with a buffer
abbrev pub frames : List ℕ → List (List ℕ) → List Event
frames buffer fs = map (λ (bytes : List ℕ). Event.frame bytes buffer) fs

-- ---- over a view: the directory and the most words that reads go by

module _ (v : View) where
  -- the history of a new meter with some events, and some between the two reads
  abbrev pub HistoryOf : Given → List Event → List Event → Type 0
  HistoryOf g events between =
      (h : History v) × (h.given ≡ g) × (h.events ≡ events) × (h.between ≡ between)

  -- a poll of the item of an index, among some that are seen, at an address
  abbrev pub ItemPoll : View → Given → ℕ → ℕ → Type 0
  ItemPoll w g address i =
      (p : Poll v g (get_or w.seen i none).quantity) × (p.asks.first + p.index ≡ i) × (address_of p.request ≡ address)

  -- STATEMENT: a history for every accepted new meter, all events and any without an accepted sample between, as any frames are; a
  -- poll for every item of the directory at the own address, and for every item for a tenant at the second, where there is one; events
  -- as a program hands them over
  pub record NotEmpty : Type 0 where
    pub history :
        (g : Given) (events between : List Event) → (new_of g).answer ≡ Ok tt →
        any_taken v (after_all v (new_of g).meter events) between ≡ false → HistoryOf g events between
    pub idle : (m : Meter) (buffer : List ℕ) (fs : List (List ℕ)) → any_taken v m (frames buffer fs) ≡ false
    pub poll : (g : Given) (i : ℕ) → (new_of g).answer ≡ Ok tt → i < length v.seen → ItemPoll v g g.address i
    pub tenant_poll :
        (g : Given) (i : ℕ) → (new_of g).answer ≡ Ok tt → (g.second ≡ 0 → ⊥) → i < length (tenant_of v).seen →
        ItemPoll (tenant_of v) g g.second i
    pub typed : AllTyped (Event.sample no_sample ∷ Event.frame (0 ∷ []) [] ∷ [])

  -- STATEMENT: the round trip over histories: from an accepted new meter, after any events as a program hands them over, every item
  -- that can be polled, at either address, is read as its quantity, and never refused
  pub record ReadsAlways : Type 0 where
    pub polls :
        (g : Given) (xs : List Event) → (new_of g).answer ≡ Ok tt → AllTyped xs →
        (q : ℕ) (p : Poll v g q) →
        collected v (after_all v (new_of g).meter xs) p ≡ Reading (meaning_of (after_all v (new_of g).meter xs) q)
