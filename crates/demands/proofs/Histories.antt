-- A frame alters setup words and the open window alone, and a sample adds what it carries, so an energy is what it was plus the sum: event by event.
use mathlib.Core.Path.{◌≡◌, refl, sym, ap, ◌∙◌}
use mathlib.Core.Logic.{inl, inr}
use mathlib.Core.Bool.{Bool, true, false, cond}
use mathlib.Core.List.{List, [], ◌∷◌}
use Prim.Native.Nat.{ℕ, ◌+◌}
use native.Mathlib.Omega.{arith}
use lib.Dec.{T}
use Rattle.directory.specs.Views.{View, passes}
use Rattle.modbus.proofs.Frames.{neither}
use Rattle.average.specs.declared.Average.{Average}
use Rattle.meter.specs.declared.samples.Sample.{Sample}
use Rattle.meter.specs.declared.groups.Setup.{Setup}
use Rattle.meter.specs.declared.Answered.{Answered}
use Rattle.meter.specs.declared.Meter.{Meter}
use Rattle.meter.specs.Samples.{sample_ok}
use Rattle.meter.specs.Energies.{value_of}
use Rattle.meter.specs.Meters.{meter_t, meter_ok, set_up_of, energy_at}
use Rattle.meter.specs.After.{next_of, meter_within_top, after_of}
use Rattle.meter.specs.Carried.{carries_for}
use Rattle.meter.specs.Accepts.{other}
use Rattle.meter.proofs.Cases.{chosen}
use Rattle.meter.proofs.Sums.{after_adds}
use Rattle.meter.proofs.Accepts.{sample_within, setup_idle}
use Rattle.store.specs.Writes.{replaced_in}
use Rattle.board.specs.Board.{board_in}
use Rattle.demands.proofs.Frames.{Kept, kept, frame_within}
use Rattle.demands.specs.Histories.{Event, after_event, event_adds, is_taken, after_all, exact_of, any_taken, AfterEvents, after_samples, SetupIdleAlways}

-- ---- a sample

-- what is the same of the next meter is the same after a sample
module _ {A : Type 0} (see : Meter → A) (blind : (m : Meter) (s : Sample) → see (next_of m s) ≡ see m) where
  chosen_unseen : (a b c : Bool) (m n : Meter) → see n ≡ see m → see (chosen a b c m n).meter ≡ see m
  chosen_unseen true true true m n e = e
  chosen_unseen true true false m n e = refl
  chosen_unseen true false c m n e = refl
  chosen_unseen false b c m n e = refl

  pub sample_unseen : (m : Meter) (s : Sample) → see (after_of m s).meter ≡ see m
  unfolding after_of
  sample_unseen m s = chosen_unseen (meter_ok m) (sample_ok (meter_t m) s) (meter_within_top (next_of m s)) m (next_of m s) (blind m s)

untaken_adds : (e : ℕ) (m : Meter) (x : Event) → is_taken m x ≡ false → event_adds e m x ≡ 0
untaken_adds e m (Event.sample s) h = ap (λ (t : Bool). cond t (carries_for e s) 0) h
untaken_adds e m (Event.frame bytes b) h = refl

module _ (v : View) (good : T (passes v)) where
  -- ---- a frame, and any event

  -- what sees neither setup words nor the open window sees nothing of a frame
  module _ {A : Type 0} (see : Meter → A) (blind : (m : Meter) (setup : Setup) → see (set_up_of m setup) ≡ see m) where
    altered_unseen : (m : Meter) (frame b : List ℕ) (n : Meter) → Kept m frame b n → see n ≡ see m
    altered_unseen m frame b n (inl e) = ap see e
    altered_unseen m frame b n (inr s) = ap see s.2 ∙ blind m (replaced_in m.setup frame)

    frame_unseen : (m : Meter) (frame b : List ℕ) → see (board_in v m frame b).handled.meter ≡ see m
    frame_unseen m frame b = altered_unseen m frame b _ (kept v good m frame b)

  event_within : (m : Meter) (x : Event) → meter_ok m ≡ true → meter_ok (after_event v m x) ≡ true
  event_within m (Event.sample s) h = sample_within m s h
  event_within m (Event.frame bytes b) h = frame_within v good m bytes b h

  event_adds_lem : (e : ℕ) (m : Meter) (x : Event) → value_of (energy_at e (after_event v m x)) ≡ value_of (energy_at e m) + event_adds e m x
  event_adds_lem e m (Event.sample s) = after_adds e m s
  event_adds_lem e m (Event.frame bytes b) = frame_unseen (λ m. value_of (energy_at e m)) (λ m s. refl) m bytes b ∙ omega arith

  -- ---- and so for any

  within : (m : Meter) (xs : List Event) → meter_ok m ≡ true → meter_ok (after_all v m xs) ≡ true
  unfolding after_all
  within m [] h = h
  within m (x ∷ xs) h = within (after_event v m x) xs (event_within m x h)

  -- what neither sees is the same after any
  module _ {A : Type 0} (see : Meter → A) (frames : (m : Meter) (setup : Setup) → see (set_up_of m setup) ≡ see m) (samples : (m : Meter) (s : Sample) → see (next_of m s) ≡ see m) where
    event_unseen : (m : Meter) (x : Event) → see (after_event v m x) ≡ see m
    event_unseen m (Event.sample s) = sample_unseen see samples m s
    event_unseen m (Event.frame bytes b) = frame_unseen see frames m bytes b

    all_unseen : (m : Meter) (xs : List Event) → see (after_all v m xs) ≡ see m
    unfolding after_all
    all_unseen m [] = refl
    all_unseen m (x ∷ xs) = all_unseen (after_event v m x) xs ∙ event_unseen m x

  grows : (e : ℕ) (m : Meter) (xs : List Event) → value_of (energy_at e (after_all v m xs)) ≡ value_of (energy_at e m) + exact_of v e m xs
  unfolding after_all exact_of
  grows e m [] = omega arith
  grows e m (x ∷ xs) = omega (arith, grows e (after_event v m x) xs, event_adds_lem e m x)

  pub after_events : AfterEvents v
  after_events = record {
    within = within;
    given = all_unseen (λ m. m.given) (λ m s. refl) (λ m s. refl);
    grows = grows;
  }

  -- ---- without an accepted sample

  pub idle_adds : (e : ℕ) (m : Meter) (xs : List Event) → any_taken v m xs ≡ false → exact_of v e m xs ≡ 0
  unfolding exact_of any_taken
  idle_adds e m [] h = refl
  idle_adds e m (x ∷ xs) h =
      let t = neither (is_taken m x) (any_taken v (after_event v m x) xs) h in
      omega (arith, untaken_adds e m x t.0, idle_adds e (after_event v m x) xs t.1)

  -- ---- setup words, and samples

  apart : (m : Meter) (setup : Setup) (a : Average) (ss : List Sample) → meter_ok m ≡ true → meter_ok (other m setup a) ≡ true → after_samples v (other m setup a) ss ≡ other (after_samples v m ss) setup (after_samples v (other m setup a) ss).average
  unfolding after_all
  apart m setup a [] hm ho = refl
  apart m setup a (s ∷ ss) hm ho =
      let n = (after_of m s).meter in
      let x = (after_of (other m setup a) s).meter in
      let next : x ≡ other n setup x.average = ap (λ (r : Answered). r.meter) ((setup_idle m s setup a).code hm ho) in
      let within : meter_ok (other n setup x.average) ≡ true = sym (ap meter_ok next) ∙ sample_within (other m setup a) s ho in
      let rest = apart n setup x.average ss (sample_within m s hm) within in
      let moved = ap (λ (k : Meter). after_samples v k ss) next in
      moved ∙ rest ∙ ap (λ (k : Meter). other (after_samples v n ss) setup k.average) (sym moved)

  pub setup_idle_always : SetupIdleAlways v
  setup_idle_always = record { samples = apart }
