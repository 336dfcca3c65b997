-- A write is judged by four tests in their order: which verdict each of them leads to, and what becomes of the record.
use mathlib.Core.Path.{◌≡◌, refl, sym, ap, ◌∙◌}
use mathlib.Core.Logic.{◌↔◌, ◌⊎◌, inl, inr}
use mathlib.Core.Bool.{Bool, true, false, ◌&&◌, ◌||◌, not, cond, false≢true, and-eq-true_iff}
use mathlib.Core.List.{List}
use Prim.Native.Nat.{ℕ}
use native.Mathlib.Omega.{arith}
use lib.Dec.{eqb}
use borrow.Author.Tests.{eqb-true}
use Rattle.std.proofs.Common.{Option, Some, None, Result, Ok, Err}
use Rattle.refusal.specs.declared.ErrorCode.{ErrorCode}
use Rattle.refusal.specs.declared.ErrorCode.TheVariants.{Address, Data}
use Rattle.refusal.specs.Numbers.{error_by}
use Rattle.refusal.proofs.Distinct.{one_reason_each, case_in, number_in}
use Rattle.setup.specs.Ranges.{group_ok}
use Rattle.modbus.specs.Frame.{start_of, word_number, write_values, write_shaped}
use Rattle.meter.specs.declared.Meter.{Meter}
use Rattle.meter.specs.Groups.{setup_ok}
use Rattle.meter.specs.Meters.{meter_ok}
use Rattle.meter.proofs.Parts.{meter_parts}
use Rattle.meter.proofs.Accepts.{set_up_within}
use Rattle.store.specs.Writes.{fault_of, verdict_told, left_by, to_standard, to_output, group_words, replaced_in, stored_of, written_of, to_group, group_fits, WriteWhen}

-- what the tests lead to: a shaped, p to a group, n its words, g its values; k is the meter with it stored
abbrev judged : Bool → Bool → Bool → Bool → Meter → Result Meter ErrorCode
judged a p n g k = cond (not a) (Err Data) (cond (not p) (Err Address) (cond (not n) (Err Data) (cond (not g) (Err Data) (Ok k))))

-- the numbers of a verdict give it back
pub verdict_back : (a b : Option ErrorCode) → verdict_told a ≡ verdict_told b → a ≡ b
verdict_back None None e = refl
verdict_back None (Some c) e = absurd (omega (arith, ap case_in e))
verdict_back (Some c) None e = absurd (omega (arith, ap case_in e))
verdict_back (Some c) (Some d) e = ap Some (one_reason_each.errors c d (ap number_in e))

pub wrong_good : {A : Type 0} {code : ErrorCode} → ◌≡◌ {A = Option ErrorCode} (Some code) None → A
wrong_good e = let z : ◌≡◌ {A = ℕ} 0 1 = cc in let y : ⊥ = omega arith in absurd y

module _ (m k : Meter) where
  -- the same by three tests: f for words and values together
  abbrev by_three : Bool → Bool → Bool → Result Meter ErrorCode
  by_three a p f = cond a (cond p (cond f (Ok k) (Err Data)) (Err Address)) (Err Data)

  three : (a p n g : Bool) → judged a p n g k ≡ by_three a p (n && g)
  three true true true true = refl
  three true true true false = refl
  three true true false g = refl
  three true false n g = refl
  three false p n g = refl

  address_when : (a p f : Bool) → (verdict_told (fault_of (by_three a p f)) ≡ error_by 2) ↔ ((a ≡ true) × (p ≡ false))
  address_when true true true = (λ h. absurd (omega (arith, ap case_in h)), λ h. absurd (false≢true (sym h.1)))
  address_when true true false = (λ h. absurd (omega (arith, ap number_in h)), λ h. absurd (false≢true (sym h.1)))
  address_when true false f = (λ h. (refl, refl), λ h. refl)
  address_when false p f = (λ h. absurd (omega (arith, ap number_in h)), λ h. absurd (false≢true h.0))

  data_when : (a p f : Bool) → (verdict_told (fault_of (by_three a p f)) ≡ error_by 3) ↔ ((a ≡ false) ⊎ ((p ≡ true) × (f ≡ false)))
  data_when true true true = (λ h. absurd (omega (arith, ap case_in h)), no)
    where
      no : ((true ≡ false) ⊎ ((true ≡ true) × (true ≡ false))) → verdict_told None ≡ error_by 3
      no (inl h) = absurd (false≢true (sym h))
      no (inr h) = absurd (false≢true (sym h.1))
  data_when true true false = (λ h. inr (refl, refl), λ h. refl)
  data_when true false f = (λ h. absurd (omega (arith, ap number_in h)), no)
    where
      no : ((true ≡ false) ⊎ ((false ≡ true) × (f ≡ false))) → error_by 2 ≡ error_by 3
      no (inl h) = absurd (false≢true (sym h))
      no (inr h) = absurd (false≢true h.0)
  data_when false p f = (λ h. inl refl, λ h. refl)

  good_when : (a p f : Bool) → (fault_of (by_three a p f) ≡ None) ↔ ((a ≡ true) × (p ≡ true) × (f ≡ true))
  good_when true true true = (λ h. (refl, refl, refl), λ h. refl)
  good_when true true false = (λ h. wrong_good h, λ h. absurd (false≢true h.2))
  good_when true false f = (λ h. wrong_good h, λ h. absurd (false≢true h.1))
  good_when false p f = (λ h. wrong_good h, λ h. absurd (false≢true h.0))

  only_these : (a p f : Bool) (n : ℕ) → verdict_told (fault_of (by_three a p f)) ≡ error_by n → (n ≡ 2) ⊎ (n ≡ 3)
  only_these true true true n h = absurd (omega (arith, ap case_in h))
  only_these true true false n h = inr (sym (ap number_in h))
  only_these true false f n h = inl (sym (ap number_in h))
  only_these false p f n h = inr (sym (ap number_in h))

  keeps : (a p f : Bool) (code : ErrorCode) → fault_of (by_three a p f) ≡ Some code → left_by m (by_three a p f) ≡ m
  keeps true true true code h = wrong_good (sym h)
  keeps true true false code h = refl
  keeps true false f code h = refl
  keeps false p f code h = refl

  stores : (a p f : Bool) → fault_of (by_three a p f) ≡ None → left_by m (by_three a p f) ≡ k
  stores true true true h = refl
  stores true true false h = wrong_good h
  stores true false f h = wrong_good h
  stores false p f h = wrong_good h

module _ (m : Meter) (frame : List ℕ) where
  is_judged : written_of m frame ≡ by_three m (stored_of m frame) (write_shaped frame) (to_group frame) (group_fits frame)
  unfolding written_of
  is_judged = three m (stored_of m frame) (write_shaped frame) (to_group frame) (eqb (word_number frame) (group_words frame)) (group_ok (start_of frame) (write_values frame))

pub write_when : (m : Meter) (frame : List ℕ) → WriteWhen m frame
write_when m frame =
    record {
      error_02 = rw (is_judged m frame) (address_when m (stored_of m frame) (write_shaped frame) (to_group frame) (group_fits frame));
      error_03 = rw (is_judged m frame) (data_when m (stored_of m frame) (write_shaped frame) (to_group frame) (group_fits frame));
      legal = rw (is_judged m frame) (good_when m (stored_of m frame) (write_shaped frame) (to_group frame) (group_fits frame));
      only = rw (is_judged m frame) (only_these m (stored_of m frame) (write_shaped frame) (to_group frame) (group_fits frame));
      kept = rw (is_judged m frame) (keeps m (stored_of m frame) (write_shaped frame) (to_group frame) (group_fits frame));
      stored = rw (is_judged m frame) (stores m (stored_of m frame) (write_shaped frame) (to_group frame) (group_fits frame));
    }

-- ---- within limits

module _ (m : Meter) (frame : List ℕ) (hm : meter_ok m ≡ true) (t : to_group frame ≡ true) (f : group_fits frame ≡ true) where
  -- the values are in the range of the group that they go to
  ranged : (address : ℕ) → eqb (start_of frame) address ≡ true → group_ok address (write_values frame) ≡ true
  ranged address s =
      let in_range = ((and-eq-true_iff (eqb (word_number frame) (group_words frame)) _).0 f).1 in
      ap (λ (a : ℕ). group_ok a (write_values frame)) (sym (eqb-true _ _ s)) ∙ in_range

  groups : (group_ok 0x2000 m.setup.standard ≡ true) × (group_ok 0x2200 m.setup.output ≡ true)
  groups = (and-eq-true_iff (group_ok 0x2000 m.setup.standard) _).0 (meter_parts m hm).setup

  replaced_within : (s : Bool) → to_standard frame ≡ s → setup_ok (replaced_in m.setup frame) ≡ true
  replaced_within true s = rw s (λ i. ranged 0x2000 s i && groups.1 i)
  replaced_within false s =
      let o : to_output frame ≡ true = sym (ap (λ (x : Bool). x || to_output frame) s) ∙ t in
      rw s (λ i. groups.0 i && ranged 0x2200 o i)

  stored_within : meter_ok (stored_of m frame) ≡ true
  stored_within = set_up_within m (replaced_in m.setup frame) hm (replaced_within (to_standard frame) refl)

by_verdict : (m : Meter) (frame : List ℕ) → meter_ok m ≡ true → (v : Option ErrorCode) → fault_of (written_of m frame) ≡ v → meter_ok (left_by m (written_of m frame)) ≡ true
by_verdict m frame h (Some code) e = ap meter_ok ((write_when m frame).kept code e) ∙ h
by_verdict m frame h None e =
    let l = (write_when m frame).legal.0 e in
    ap meter_ok ((write_when m frame).stored e) ∙ stored_within m frame h l.1 l.2

-- a write keeps a record within limits
pub write_within : (m : Meter) (frame : List ℕ) → meter_ok m ≡ true → meter_ok (left_by m (written_of m frame)) ≡ true
write_within m frame h = by_verdict m frame h (fault_of (written_of m frame)) refl
