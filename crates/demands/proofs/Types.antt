-- A blank record has the lengths and widths of its types; a sample brings its own, and a stored write the words that its frame holds, each of two bytes.
use mathlib.Core.Path.{◌≡◌, refl, sym, ap, subst, ◌∙◌}
use mathlib.Core.Logic.{inl, inr}
use mathlib.Core.Bool.{Bool, true, false, cond, and-eq-true_iff}
use mathlib.Core.List.{List, [], ◌∷◌}
use Prim.Native.Nat.{ℕ, zero, suc, ◌+◌, ◌^◌, ◌<◌}
use native.Mathlib.Omega.{arith}
use lib.Dec.{T, eqb}
use lib.ListN.{get_or, replicate}
use borrow.Author.Tests.{eqb-true}
use Rattle.directory.specs.Views.{View, passes}
use Rattle.modbus.specs.Frame.{word_number, words_at, write_values}
use Rattle.modbus.proofs.Rows.{length_words}
use Rattle.meter.specs.declared.samples.Sample.{Sample}
use Rattle.meter.specs.declared.given.Given.{Given}
use Rattle.meter.specs.declared.Meter.{Meter}
use Rattle.meter.specs.Samples.{sample_ok, no_sample}
use Rattle.meter.specs.Groups.{no_setup}
use Rattle.meter.specs.Meters.{meter_t, meter_ok, blank_of, new_of}
use Rattle.meter.specs.After.{next_of, meter_within_top, after_of}
use Rattle.meter.proofs.Cases.{chosen}
use Rattle.meter.proofs.Accepts.{new_blank}
use Rattle.store.specs.Writes.{to_standard, group_words, replaced_in, stored_of}
use Rattle.store.proofs.Verdicts.{write_when}
use Rattle.registers.specs.Typed.{SampleTyped, WordsTyped, SetupTyped, Typed}
use Rattle.demands.specs.Frames.{Stores}
use Rattle.demands.proofs.Frames.{Kept, kept}
use Rattle.demands.specs.Histories.{Event, after_event, after_all, EventTyped, AllTyped, TypesKept}
use Rattle.demands.specs.Histories.AllTyped.{more}

-- ---- a new meter

pub zeros : (n b i : ℕ) → 0 < b → get_or (replicate n 0) i 0 < b
zeros zero b i h = h
zeros (suc n) b zero h = h
zeros (suc n) b (suc i) h = zeros n b i h

pub blank_sample : SampleTyped no_sample
blank_sample = record { voltages = refl; currents = refl; voltage = λ i. zeros 6 (256 ^ 4) i (omega arith); current = λ i. zeros 4 (256 ^ 4) i (omega arith); frequency = omega arith }

blank_setup : SetupTyped no_setup
blank_setup = record {
  standard = record { long = refl; word = λ i. zeros 16 (256 ^ 2) i (omega arith) };
  output = record { long = refl; word = λ i. zeros 24 (256 ^ 2) i (omega arith) };
}

blank_typed : (g : Given) → Typed (blank_of g)
blank_typed g = record { latest = blank_sample; setup = blank_setup }

new : (g : Given) → Typed (new_of g).meter
new g = subst (λ (m : Meter). Typed m) (sym (new_blank g)) (blank_typed g)

-- ---- a sample

next_typed : (m : Meter) (s : Sample) → Typed m → SampleTyped s → Typed (next_of m s)
next_typed m s typed fits = record { latest = fits; setup = typed.setup }

picked_typed : (a b c : Bool) (m n : Meter) → Typed m → Typed n → Typed (chosen a b c m n).meter
picked_typed true true true m n x y = y
picked_typed true true false m n x y = x
picked_typed true false c m n x y = x
picked_typed false b c m n x y = x

after_typed : (m : Meter) (s : Sample) → Typed m → SampleTyped s → Typed (after_of m s).meter
unfolding after_of
after_typed m s typed fits = picked_typed (meter_ok m) (sample_ok (meter_t m) s) (meter_within_top (next_of m s)) m (next_of m s) typed (next_typed m s typed fits)

-- ---- a frame

module _ (frame : List ℕ) (bytes : (i : ℕ) → get_or frame i 0 < 256) where
  words_fit : (n at i : ℕ) → get_or (words_at n frame at) i 0 < 256 ^ 2
  unfolding words_at
  words_fit zero at i = omega arith
  words_fit (suc n) at zero = omega (arith, bytes at, bytes (at + 1))
  words_fit (suc n) at (suc i) = words_fit n (at + 2) i

  values_typed : (n : ℕ) → word_number frame ≡ n → WordsTyped n (write_values frame)
  values_typed n e = record { long = length_words (word_number frame) frame 7 ∙ e; word = words_fit (word_number frame) 7 }

  stored_typed : (m : Meter) → Typed m → Stores m frame → Typed (stored_of m frame)
  stored_typed m typed stores = record { latest = typed.latest; setup = by (to_standard frame) refl }
    where
      number : word_number frame ≡ group_words frame
      number = eqb-true _ _ ((and-eq-true_iff (eqb (word_number frame) (group_words frame)) _).0 ((write_when m frame).legal.0 stores.1).2).0

      by : (t : Bool) → to_standard frame ≡ t → SetupTyped (replaced_in m.setup frame)
      by true e = rw e (record { standard = values_typed 16 (number ∙ ap (λ (t : Bool). cond t 16 24) e); output = typed.setup.output })
      by false e = rw e (record { standard = typed.setup.standard; output = values_typed 24 (number ∙ ap (λ (t : Bool). cond t 16 24) e) })

  kept_typed : (m : Meter) (b : List ℕ) (n : Meter) → Typed m → Kept m frame b n → Typed n
  kept_typed m b n typed (inl e) = subst (λ (x : Meter). Typed x) (sym e) typed
  kept_typed m b n typed (inr s) = subst (λ (x : Meter). Typed x) (sym s.2) (stored_typed m typed s.1)

module _ (v : View) (good : T (passes v)) where
  -- ---- and so any

  event : (m : Meter) (x : Event) → Typed m → EventTyped x → Typed (after_event v m x)
  event m (Event.sample s) typed fits = after_typed m s typed fits
  event m (Event.frame bytes b) typed fits = kept_typed bytes fits m b _ typed (kept v good m bytes b)

  events : (m : Meter) (xs : List Event) → Typed m → AllTyped xs → Typed (after_all v m xs)
  unfolding after_all
  events m [] typed all = typed
  events m (x ∷ xs) typed (more fits all) = events (after_event v m x) xs (event m x typed fits) all

  pub types_kept : TypesKept v
  types_kept = record { new = new; event = event; events = events }
