-- What demand 3 speaks of: a meter's history, of samples and frames, accepted and refused, and the exact energy of its accepted samples.
use Rattle.std.specs.Prelude.{◌≡◌, ℕ, ◌+◌, ◌<◌, Bool, true, false, ◌||◌, List, [], ◌∷◌, map, get_or}
use Rattle.directory.specs.Views.{View}
use Rattle.average.specs.declared.Average.{Average}
use Rattle.meter.specs.declared.samples.Sample.{Sample}
use Rattle.meter.specs.declared.given.Given.{Given}
use Rattle.meter.specs.declared.groups.Setup.{Setup}
use Rattle.meter.specs.declared.Meter.{Meter}
use Rattle.meter.specs.Energies.{value_of}
use Rattle.meter.specs.Meters.{meter_ok, new_of, energy_at}
use Rattle.meter.specs.After.{after_of}
use Rattle.meter.specs.Carried.{is_accepted, added_by}
use Rattle.meter.specs.Accepts.{other}
use Rattle.registers.specs.Typed.{SampleTyped, Typed}
use Rattle.board.specs.Board.{board_in}

-- an event: a sample is handed over, or a frame, with a buffer for the reply
pub data Event : Type 0 where
  sample : Sample → Event
  frame : List ℕ → List ℕ → Event

-- what an event adds to an energy: an accepted sample what it carries; a refused one and a frame nothing
abbrev pub event_adds : ℕ → Meter → Event → ℕ
event_adds e m (Event.sample s) = added_by e m s
event_adds e m (Event.frame bytes buffer) = 0

-- the event is a sample, and accepted
abbrev pub is_taken : Meter → Event → Bool
is_taken m (Event.sample s) = is_accepted (after_of m s).answer
is_taken m (Event.frame bytes buffer) = false

-- an event as a program hands it over: a sample whose figures fit their types, a frame of bytes
abbrev pub EventTyped : Event → Type 0
EventTyped (Event.sample s) = SampleTyped s
EventTyped (Event.frame bytes buffer) = (i : ℕ) → get_or bytes i 0 < 256

-- all of some events are so
pub data AllTyped : List Event → Type 0 where
  none : AllTyped []
  more : {x : Event} {xs : List Event} → EventTyped x → AllTyped xs → AllTyped (x ∷ xs)

-- ---- over a view: the directory and the most words that reads go by

module _ (v : View) where
  -- the meter after an event
  abbrev pub after_event : Meter → Event → Meter
  after_event m (Event.sample s) = (after_of m s).meter
  after_event m (Event.frame bytes buffer) = (board_in v m bytes buffer).handled.meter

  -- the meter after some events, one by one
  unfoldable pub after_all : Meter → List Event → Meter
  after_all m [] = m
  after_all m (x ∷ xs) = after_all (after_event m x) xs

  -- the exact energy of the samples accepted among them, in hundredths of a watt-second: the plain sum of what they carry
  unfoldable pub exact_of : ℕ → Meter → List Event → ℕ
  exact_of e m [] = 0
  exact_of e m (x ∷ xs) = event_adds e m x + exact_of e (after_event m x) xs

  -- a sample is accepted among them
  unfoldable pub any_taken : Meter → List Event → Bool
  any_taken m [] = false
  any_taken m (x ∷ xs) = is_taken m x || any_taken (after_event m x) xs

  -- STATEMENT: a new meter is as a program holds it, and stays so after events as a program hands them over
  pub record TypesKept : Type 0 where
    pub new : (g : Given) → Typed (new_of g).meter
    pub event : (m : Meter) (x : Event) → Typed m → EventTyped x → Typed (after_event m x)
    pub events : (m : Meter) (xs : List Event) → Typed m → AllTyped xs → Typed (after_all m xs)

  -- STATEMENT: after any events a record is still within limits, what it was given (addresses, ratios, order) is as it was, and each
  -- energy, Wh × 360,000 + remainder, has grown by the exact energy of the samples accepted
  pub record AfterEvents : Type 0 where
    pub within : (m : Meter) (xs : List Event) → meter_ok m ≡ true → meter_ok (after_all m xs) ≡ true
    pub given : (m : Meter) (xs : List Event) → (after_all m xs).given ≡ m.given
    pub grows : (e : ℕ) (m : Meter) (xs : List Event) → value_of (energy_at e (after_all m xs)) ≡ value_of (energy_at e m) + exact_of e m xs

  -- the meter after some samples
  abbrev pub after_samples : Meter → List Sample → Meter
  after_samples m ss = after_all m (map (λ (s : Sample). Event.sample s) ss)

  -- STATEMENT: `SetupIdle` of any number of samples: of two records within limits that are alike but for setup words and request 1's
  -- figures, all that later samples make is alike but for these
  pub record SetupIdleAlways : Type 0 where
    pub samples :
        (m : Meter) (setup : Setup) (a : Average) (ss : List Sample) → meter_ok m ≡ true → meter_ok (other m setup a) ≡ true →
        after_samples (other m setup a) ss ≡ other (after_samples m ss) setup (after_samples (other m setup a) ss).average
