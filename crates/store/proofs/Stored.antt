-- A write, test by test.
use mathlib.Core.Path.{◌≡◌, refl, ◌∙◌}
use mathlib.Core.Bool.{Bool, true, false, cond}
use mathlib.Core.List.{List}
use Prim.Native.Nat.{ℕ}
use native.Mathlib.Omega.{arith}
use lib.Dec.{eqb}
use Rattle.std.proofs.Common.{Result, Ok, Err}
use Rattle.refusal.specs.declared.ErrorCode.{ErrorCode}
use Rattle.refusal.specs.declared.ErrorCode.TheVariants.{Address, Data}
use Rattle.setup.specs.Ranges.{group_ok}
use Rattle.modbus.specs.Frame.{start_of, word_number, write_values, write_shaped}
use Rattle.meter.specs.declared.Meter.{Meter}
use Rattle.store.specs.Writes.{to_standard, to_output, to_group, group_words, stored_of, written_of}

module _ (m : Meter) (frame : List ℕ) where
  pub misshaped : write_shaped frame ≡ false → Err Data ≡ written_of m frame
  unfolding written_of
  misshaped h = rw h refl

  pub nowhere : write_shaped frame ≡ true → to_standard frame ≡ false → to_output frame ≡ false → Err Address ≡ written_of m frame
  unfolding written_of
  nowhere h s o = rw (h, s, o) refl

  -- the words of a write to a group of so many
  abbrev taken : ℕ → Result (List ℕ) ErrorCode
  taken words = cond (eqb (word_number frame) words) (Ok (write_values frame)) (Err Data)

  -- to a group, of so many words from an address on
  module _ (words address : ℕ) (h : write_shaped frame ≡ true) (t : to_group frame ≡ true) (n : group_words frame ≡ words) (a : start_of frame ≡ address) where
    pub misfit : (code : ErrorCode) → Err code ≡ taken words → Err code ≡ written_of m frame
    unfolding written_of
    misfit code e = by (eqb (word_number frame) words) refl e
      where
        by : (b : Bool) → eqb (word_number frame) words ≡ b → Err code ≡ cond b (Ok (write_values frame)) (Err Data) → Err code ≡ written_of m frame
        by true w e = let z : ◌≡◌ {A = ℕ} 0 1 = cc in absurd (omega (arith, z))
        by false w e = let same : code ≡ Data = cc in rw (same, h, t, n, w) refl

    -- with its values, as they are in range or not
    module _ (group : List ℕ) (e : Ok group ≡ taken words) where
      pub fits : (eqb (word_number frame) words ≡ true) × (group ≡ write_values frame)
      fits = by (eqb (word_number frame) words) e
        where
          by : (b : Bool) → Ok group ≡ cond b (Ok (write_values frame)) (Err Data) → (b ≡ true) × (group ≡ write_values frame)
          by true e = (refl, cc)
          by false e = let z : ◌≡◌ {A = ℕ} 0 1 = cc in absurd (omega (arith, z))

      range : group_ok (start_of frame) (write_values frame) ≡ group_ok address group
      range = rw (a, fits.1) refl

      pub bad : group_ok address group ≡ false → Err Data ≡ written_of m frame
      unfolding written_of
      bad g = rw (h, t, n, fits.0, range ∙ g) refl

      pub good : group_ok address group ≡ true → Ok (stored_of m frame) ≡ written_of m frame
      unfolding written_of
      good g = rw (h, t, n, fits.0, range ∙ g) refl
