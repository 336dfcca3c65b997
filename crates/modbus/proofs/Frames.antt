-- The tests of a frame, by what the code finds first.
use mathlib.Core.Path.{◌≡◌, refl, sym, ap}
use mathlib.Core.Bool.{Bool, true, false, ◌&&◌, ◌||◌, not, cond, false≢true, and-eq-true_iff}
use mathlib.Core.List.{List}
use Prim.Native.Nat.{ℕ, ◌*◌, ◌+◌, ◌≤◌, ◌<◌}
use native.Mathlib.Omega.{arith}
use lib.Dec.{leb, ltb, eqb}
use lib.ListN.{length}
use borrow.Author.Tests.{lt-ltb, le-ltb, ltb-true, ltb-false, le-leb, lt-leb, leb-true, leb-false, eqb-true, eqb-false, not-true}
use Rattle.std.specs.Prelude.{Err}
use Rattle.std.proofs.Common.{Less, Equal, Greater, is_le, nat_cmp}
use Rattle.refusal.specs.declared.ErrorCode.TheVariants.{Data}
use Rattle.crc.specs.Crc.{intact}
use Rattle.directory.specs.Run.{run_in}
use Rattle.directory.specs.Views.{View}
use Rattle.modbus.specs.Frame.{address_of, function_of, start_of, word_number, byte_number, silence, write_shaped}
use Rattle.modbus.specs.Read.{number_wrong, read_in}

-- any of four tests, whichever is found true first
abbrev any : Bool → Bool → Bool → Bool → Bool
any a b c d = a || b || c || d

first : (a b c d : Bool) → a ≡ true → true ≡ any a b c d
first a b c d h = rw h refl

damage : (a b c d : Bool) → b ≡ true → true ≡ any a b c d
damage true b c d h = refl
damage false b c d h = rw h refl

third : (a b c d : Bool) → c ≡ true → true ≡ any a b c d
third true true c d h = refl
third true false c d h = refl
third false true c d h = refl
third false false c d h = rw h refl

fourth : (a b c d : Bool) → d ≡ true → true ≡ any a b c d
fourth true b c d h = refl
fourth false true c d h = refl
fourth false false true d h = refl
fourth false false false d h = sym h

second : (a b c d : Bool) → a ≡ false → c ≡ false → d ≡ false → b ≡ any a b c d
second a true c d f g h = rw f refl
second a false c d f g h = rw (f, g, h) refl

pub neither : (a b : Bool) → (a || b) ≡ false → (a ≡ false) × (b ≡ false)
neither true b h = absurd (false≢true (sym h))
neither false b h = (refl, h)

-- a number that is not within two limits is below the one or above the other
ltb_not : (a b : ℕ) → ltb a b ≡ not (leb b a)
ltb_not a b = by (leb b a) refl
  where
    by : (t : Bool) → leb b a ≡ t → ltb a b ≡ not t
    by true e = le-ltb a b (leb-true b a e)
    by false e = lt-ltb a b (leb-false b a e)

not_both : (a b : Bool) → (not a || not b) ≡ not (a && b)
not_both true b = refl
not_both false b = refl

compared : (a b : ℕ) → is_le (nat_cmp a b) ≡ leb a b
compared a b = by (ltb a b) (eqb a b) refl refl
  where
    by : (x y : Bool) → ltb a b ≡ x → eqb a b ≡ y → is_le (cond x Less (cond y Equal Greater)) ≡ leb a b
    by true y e f = sym (le-leb a b (omega (arith, ltb-true a b e)))
    by false true e f = sym (le-leb a b (omega (arith, eqb-true a b f)))
    by false false e f = sym (lt-leb a b (omega (arith, ltb-false a b e, eqb-false a b f)))

pub outside : (least n most : ℕ) {inside : Bool} → inside ≡ (is_le (nat_cmp least n) && is_le (nat_cmp n most)) → (ltb n least || ltb most n) ≡ not inside
outside least n most h = rw (ltb_not n least, ltb_not most n, h, compared least n, compared n most) (not_both (leb least n) (leb n most))

module _ (own : ℕ) (frame : List ℕ) where
  abbrev misfit : Bool
  misfit = ltb (length frame) 4 || ltb 256 (length frame)

  abbrev foreign : Bool
  foreign = not (eqb (address_of frame) 0) && not (eqb (address_of frame) own)

  pub by_length : misfit ≡ true → true ≡ silence own frame
  unfolding silence
  by_length = first misfit (not (intact frame)) foreign (leb 0x80 (function_of frame))

  pub by_damage : intact frame ≡ false → true ≡ silence own frame
  unfolding silence
  by_damage h = damage misfit (not (intact frame)) foreign (leb 0x80 (function_of frame)) (ap not h)

  pub by_address : foreign ≡ true → true ≡ silence own frame
  unfolding silence
  by_address = third misfit (not (intact frame)) foreign (leb 0x80 (function_of frame))

  pub by_function : leb 0x80 (function_of frame) ≡ true → true ≡ silence own frame
  unfolding silence
  by_function = fourth misfit (not (intact frame)) foreign (leb 0x80 (function_of frame))

  pub by_crc : misfit ≡ false → foreign ≡ false → leb 0x80 (function_of frame) ≡ false → not (intact frame) ≡ silence own frame
  unfolding silence
  by_crc = second misfit (not (intact frame)) foreign (leb 0x80 (function_of frame))

  pub long_enough : misfit ≡ false → 4 ≤ length frame
  long_enough h = ltb-false (length frame) 4 (neither (ltb (length frame) 4) (ltb 256 (length frame)) h).0

  -- of a frame that no rule of silence holds of: what its reply needs
  pub record Heeded : Type 0 where
    pub least : 4 ≤ length frame
    pub low : function_of frame < 0x80

  pub heeded : silence own frame ≡ false → Heeded
  unfolding silence
  heeded h =
      let f = neither (misfit || not (intact frame) || foreign) (leb 0x80 (function_of frame)) h in
      let e = neither (misfit || not (intact frame)) foreign f.0 in
      let d = neither misfit (not (intact frame)) e.0 in
      record { least = long_enough d.0; low = leb-false 0x80 (function_of frame) f.1 }

-- the shape of a write
module _ (frame : List ℕ) where
  pub shape_short : length frame < 9 → false ≡ write_shaped frame
  unfolding write_shaped
  shape_short h = rw (lt-ltb (length frame) 9 h) refl

  pub shape_long : 9 ≤ length frame → (not (eqb (word_number frame) 0) && eqb (byte_number frame) (2 * word_number frame) && eqb (length frame) (9 + byte_number frame)) ≡ write_shaped frame
  unfolding write_shaped
  shape_long h = rw (le-ltb (length frame) 9 h) refl

  -- a write that is shaped has its fields, and a byte number that tells its length
  pub shaped_length : write_shaped frame ≡ true → (9 ≤ length frame) × (length frame ≡ 9 + 2 * word_number frame)
  unfolding write_shaped
  shaped_length h =
      let t = (and-eq-true_iff (not (ltb (length frame) 9)) _).0 h in
      let u = (and-eq-true_iff _ (eqb (length frame) (9 + byte_number frame))).0 t.1 in
      let v = (and-eq-true_iff (not (eqb (word_number frame) 0)) (eqb (byte_number frame) (2 * word_number frame))).0 u.0 in
      let bytes : byte_number frame ≡ 2 * word_number frame = eqb-true _ _ v.1 in
      let long : length frame ≡ 9 + byte_number frame = eqb-true _ _ u.1 in
      (ltb-false (length frame) 9 (not-true _ t.0), omega arith)

-- a read, test by test
module _ (v : View) (frame : List ℕ) where
  pub read_length : eqb (length frame) 8 ≡ false → Err Data ≡ read_in v frame
  unfolding read_in
  read_length h = rw h refl

  pub read_number : eqb (length frame) 8 ≡ true → number_wrong v.most (word_number frame) ≡ true → Err Data ≡ read_in v frame
  unfolding read_in
  read_number h k = rw (h, k) refl

  pub read_run : eqb (length frame) 8 ≡ true → number_wrong v.most (word_number frame) ≡ false → run_in v.seen (start_of frame) (word_number frame) ≡ read_in v frame
  unfolding read_in
  read_run h k = rw (h, k) refl
