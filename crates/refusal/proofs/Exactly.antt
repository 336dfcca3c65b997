-- An answer in numbers is due to one row, one error code or neither of them, and each is said so: then its numbers tell which.
use mathlib.Core.Path.{◌≡◌, sym, ap, subst, ◌∙◌}
use mathlib.Core.List.{List}
use Prim.Native.Nat.{ℕ, zero, suc, ◌≤◌}
use native.Mathlib.Omega.{arith}
use Rattle.refusal.specs.declared.Refusal.{Refusal}
use Rattle.refusal.specs.declared.ErrorCode.{ErrorCode}
use Rattle.refusal.specs.declared.ErrorCode.TheVariants.{Function, Address, Data}
use Rattle.refusal.specs.Numbers.{refusal_number, error_number, refused_by, error_by}
use Rattle.refusal.proofs.Distinct.{one_reason_each, case_in, number_in}

module _ (said : List ℕ) (Refuses : Refusal → Type 0) (Coded : ℕ → Type 0) (Else : Type 0) where
  -- what it is due to
  pub data Due : Type 0 where
    refused_as : (reason : Refusal) → Refuses reason → Due
    error_as : (code : ErrorCode) → Coded (error_number code) → Due
    else_as : Else → Due

  -- and how that is said
  pub record Says : Type 0 where
    pub refusal : {reason : Refusal} → Refuses reason → said ≡ refused_by (refusal_number reason)
    pub error : (code : ErrorCode) → Coded (error_number code) → said ≡ error_by (error_number code)
    pub other : Else → case_in said ≡ 0

  module _ (says : Says) where
    -- a refusal is due to its row
    pub row_of : (reason : Refusal) → said ≡ refused_by (refusal_number reason) → Due → Refuses reason
    row_of reason h (refused_as x w) = subst Refuses (one_reason_each.refusals x reason (ap number_in (sym (says.refusal w) ∙ h))) w
    row_of reason h (error_as code e) = absurd (let z = ap case_in (sym (says.error code e) ∙ h) in omega (arith, z))
    row_of reason h (else_as e) = absurd (let z = sym (says.other e) ∙ ap case_in h in omega (arith, z))

    -- and its number is that row's
    pub number_of : (P : ℕ → Type 0) → ((reason : Refusal) → Refuses reason → P (refusal_number reason)) → (n : ℕ) → said ≡ refused_by n → Due → P n
    number_of P each n h (refused_as x w) = subst P (ap number_in (sym (says.refusal w) ∙ h)) (each x w)
    number_of P each n h (error_as code e) = absurd (let z = ap case_in (sym (says.error code e) ∙ h) in omega (arith, z))
    number_of P each n h (else_as e) = absurd (let z = sym (says.other e) ∙ ap case_in h in omega (arith, z))

    pub code_of_lem : (n : ℕ) → said ≡ error_by n → Due → Coded n
    code_of_lem n h (refused_as x w) = absurd (let z = ap case_in (sym (says.refusal w) ∙ h) in omega (arith, z))
    code_of_lem n h (error_as code e) = subst Coded (ap number_in (sym (says.error code e) ∙ h)) e
    code_of_lem n h (else_as e) = absurd (let z = sym (says.other e) ∙ ap case_in h in omega (arith, z))

    -- a code that is 1, 2 or 3 has its name
    pub code_said : (n : ℕ) → 1 ≤ n → n ≤ 3 → Coded n → said ≡ error_by n
    code_said zero some most e = absurd (omega (arith, some))
    code_said (suc zero) some most e = says.error Function e
    code_said (suc (suc zero)) some most e = says.error Address e
    code_said (suc (suc (suc zero))) some most e = says.error Data e
    code_said (suc (suc (suc (suc n)))) some most e = absurd (omega (arith, most))

    pub else_of : case_in said ≡ 0 → Due → Else
    else_of h (refused_as x w) = absurd (let z = sym h ∙ ap case_in (says.refusal w) in omega (arith, z))
    else_of h (error_as code e) = absurd (let z = sym h ∙ ap case_in (says.error code e) in omega (arith, z))
    else_of h (else_as e) = e
