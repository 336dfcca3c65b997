-- Paper 01, "The meter's record" and demand 3: what each sample adds to the four energies.
use Rattle.std.specs.Prelude.{◌≡◌, ℕ, suc, Bool, true, false, cond, List, [], ◌∷◌, ℤ, pos, negsuc, ◌+ℤ◌, get_or, Result, Ok, Err, ⊤}
use Rattle.refusal.specs.declared.Refusal.{Refusal}
use Rattle.signed.specs.Signs.{above_of, below_of}
use Rattle.meter.specs.declared.samples.Powers.{Powers}
use Rattle.meter.specs.declared.samples.Sample.{Sample}
use Rattle.meter.specs.declared.Meter.{Meter}
use Rattle.meter.specs.Samples.{in_force}
use Rattle.meter.specs.After.{after_of}

-- what a sample carries for each of them, in hundredths of a watt-second
abbrev pub carries_of : Sample → List ℕ
carries_of s = above_of (in_force s.p) ∷ below_of (in_force s.p) ∷ above_of (in_force s.q) ∷ below_of (in_force s.q) ∷ []

-- what it carries for the energy of number e, counted from 0 in the paper's order
abbrev pub carries_for : ℕ → Sample → ℕ
carries_for e s = get_or (carries_of s) e 0

-- an answer is not a refusal
abbrev pub is_accepted : Result ⊤ Refusal → Bool
is_accepted (Ok done) = true
is_accepted (Err reason) = false

-- what a sample adds to an energy: what it carries if it is accepted, else nothing
abbrev pub added_by : ℕ → Meter → Sample → ℕ
added_by e m s = cond (is_accepted (after_of m s).answer) (carries_for e s) 0

-- the sum of the phases, in whole numbers
abbrev whole_sum : Powers → ℤ
whole_sum p = (p.l1 +ℤ p.l2) +ℤ p.l3

-- STATEMENT: a positive 3-phase P is added to +Ea, the magnitude of a negative one to -Ea; likewise Q: said of the phases' sum in whole
-- numbers. What a P carries for +Ea is also what joins the open window (request 1)
pub record SumsCarried (s : Sample) : Type 0 where
  pub p_above : (x : ℕ) → whole_sum s.p ≡ pos x → (carries_for 0 s ≡ x) × (carries_for 1 s ≡ 0)
  pub p_below : (x : ℕ) → whole_sum s.p ≡ negsuc x → (carries_for 0 s ≡ 0) × (carries_for 1 s ≡ suc x)
  pub q_above : (x : ℕ) → whole_sum s.q ≡ pos x → (carries_for 2 s ≡ x) × (carries_for 3 s ≡ 0)
  pub q_below : (x : ℕ) → whole_sum s.q ≡ negsuc x → (carries_for 2 s ≡ 0) × (carries_for 3 s ≡ suc x)
