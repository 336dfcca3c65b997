-- An answer by tests, the first that fails giving its reason: each reason is given just where its test is the first to fail.
use Rattle.std.specs.Prelude.{Result, Ok, Err, ⊤}
use mathlib.Core.Path.{◌≡◌, refl, sym, ap}
use mathlib.Core.Logic.Iff
use mathlib.Core.Logic.{◌↔◌, ◌⊎◌, inl, inr}
use mathlib.Core.Bool.{Bool, true, false, false≢true}
use Prim.Native.Nat.{ℕ}
use native.Mathlib.Omega.{arith}
use lib.Dec.{eqb}
use borrow.Author.Tests.{eqb-false}
use Rattle.refusal.specs.declared.Refusal.{Refusal}
use Rattle.refusal.specs.Numbers.{refusal_number, refused_by}
use Rattle.refusal.proofs.Distinct.{one_reason_each, case_in, number_in}
use Rattle.meter.specs.Carried.{is_accepted}
use Rattle.meter.specs.Meters.{answer_told}

-- ---- by numbers

-- the numbers of an answer give it back
pub answer_back : (a b : Result ⊤ Refusal) → answer_told a ≡ answer_told b → a ≡ b
answer_back (Ok done) (Ok also) e = refl
answer_back (Ok done) (Err r) e = absurd (omega (arith, ap case_in e))
answer_back (Err r) (Ok done) e = absurd (omega (arith, ap case_in e))
answer_back (Err r) (Err s) e = ap Err (one_reason_each.refusals r s (ap number_in e))

-- so a refusal is known by its number
pub by_number : {A : Type 0} (a : Result ⊤ Refusal) (reason : Refusal) → (a ≡ Err reason) ↔ A → (answer_told a ≡ refused_by (refusal_number reason)) ↔ A
by_number a reason row = Iff.trans (answer_back a (Err reason), λ e. ap answer_told e) row

-- ---- by tests

abbrev pub first_of : Refusal → Refusal → Refusal → Bool → Bool → Bool → Result ⊤ Refusal
first_of x y z true true true = Ok tt
first_of x y z true true false = Err z
first_of x y z true false c = Err y
first_of x y z false b c = Err x

-- a reason that an answer gives, some other where it gives none
abbrev reason_of : Refusal → Result ⊤ Refusal → Refusal
reason_of other (Ok done) = other
reason_of other (Err reason) = reason

-- an answer has one reason, since the numbers of two are not the same
not_both {ℓ} : {A : Type ℓ} {x y : Refusal} → eqb (refusal_number x) (refusal_number y) ≡ false → ◌≡◌ {A = Result ⊤ Refusal} (Err x) (Err y) → A
not_both {x} e h = absurd (eqb-false _ _ e (ap (λ (a : Result ⊤ Refusal). refusal_number (reason_of x a)) h))

pub not_accepted {ℓ} : {A : Type ℓ} {x : Refusal} → ◌≡◌ {A = Result ⊤ Refusal} (Err x) (Ok tt) → A
not_accepted h = absurd (false≢true (ap is_accepted h))

-- three reasons, no two of the same number
module _ (x y z : Refusal) (xy : eqb (refusal_number x) (refusal_number y) ≡ false) (xz : eqb (refusal_number x) (refusal_number z) ≡ false) (yz : eqb (refusal_number y) (refusal_number z) ≡ false) where
  pub first_fails : (a b c : Bool) → (first_of x y z a b c ≡ Err x) ↔ (a ≡ false)
  first_fails true true true = (λ h. not_accepted (sym h), λ h. absurd (false≢true (sym h)))
  first_fails true true false = (λ h. not_both xz (sym h), λ h. absurd (false≢true (sym h)))
  first_fails true false c = (λ h. not_both xy (sym h), λ h. absurd (false≢true (sym h)))
  first_fails false b c = (λ h. refl, λ h. refl)

  pub second_fails : (a b c : Bool) → (first_of x y z a b c ≡ Err y) ↔ ((a ≡ true) × (b ≡ false))
  second_fails true true true = (λ h. not_accepted (sym h), λ h. absurd (false≢true (sym h.1)))
  second_fails true true false = (λ h. not_both yz (sym h), λ h. absurd (false≢true (sym h.1)))
  second_fails true false c = (λ h. (refl, refl), λ h. refl)
  second_fails false b c = (λ h. not_both xy h, λ h. absurd (false≢true h.0))

  pub third_fails : (a b c : Bool) → (first_of x y z a b c ≡ Err z) ↔ ((a ≡ true) × (b ≡ true) × (c ≡ false))
  third_fails true true true = (λ h. not_accepted (sym h), λ h. absurd (false≢true (sym h.2)))
  third_fails true true false = (λ h. (refl, refl, refl), λ h. refl)
  third_fails true false c = (λ h. not_both yz h, λ h. absurd (false≢true h.1))
  third_fails false b c = (λ h. not_both xz h, λ h. absurd (false≢true h.0))

pub none_fails : (x y z : Refusal) (a b c : Bool) → (first_of x y z a b c ≡ Ok tt) ↔ ((a ≡ true) × (b ≡ true) × (c ≡ true))
none_fails x y z true true true = (λ h. (refl, refl, refl), λ h. refl)
none_fails x y z true true false = (λ h. not_accepted h, λ h. absurd (false≢true h.2))
none_fails x y z true false c = (λ h. not_accepted h, λ h. absurd (false≢true h.1))
none_fails x y z false b c = (λ h. not_accepted h, λ h. absurd (false≢true h.0))

-- and no other number is given
pub only_these : (x y z : Refusal) (a b c : Bool) (n : ℕ) → answer_told (first_of x y z a b c) ≡ refused_by n → (n ≡ refusal_number x) ⊎ (n ≡ refusal_number y) ⊎ ((c ≡ false) × (n ≡ refusal_number z))
only_these x y z true true true n h = absurd (omega (arith, ap case_in h))
only_these x y z true true false n h = inr (inr (refl, sym (ap number_in h)))
only_these x y z true false c n h = inr (inl (sym (ap number_in h)))
only_these x y z false b c n h = inl (sym (ap number_in h))
