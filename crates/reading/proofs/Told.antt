-- The numbers of an answer give it back, so two answers of the same numbers are the same.
use mathlib.Core.Path.{◌≡◌, refl, sym, ap, ◌∙◌}
use mathlib.Core.Bool.{Bool, true, false, cond}
use mathlib.Core.List.{List, [], ◌∷◌}
use Prim.Native.Nat.{ℕ}
use native.Mathlib.Omega.{arith}
use lib.Dec.{eqb}
use lib.ListN.{get_or, drop}
use Rattle.refusal.proofs.Distinct.{one_reason_each, case_in, number_in}
use Rattle.signed.specs.declared.Signed.{Signed}
use Rattle.reading.specs.declared.Quantity.{Quantity}
use Rattle.reading.specs.declared.Quantity.TheVariants.{Voltage, Current, Power, SignedPower, Energy, Low, High, Wrap, Factor, Sign, Sector, Frequency, Kta, Ktv, Sequence, Plain}
use Rattle.reading.specs.declared.Answer.{Answer}
use Rattle.reading.specs.declared.Answer.TheVariants.{Reading, Error, Refused}
use Rattle.reading.specs.Told.{quantity_told, told, OneAnswerEach}

-- a sign word and a magnitude, as a signed value
abbrev signed_from : List ℕ → Signed
signed_from vs = record { negative = eqb (get_or vs 0 0) 1; magnitude = get_or vs 1 0 }

sign_back : (b : Bool) → eqb (cond b 1 0) 1 ≡ b
sign_back true = refl
sign_back false = refl

signed_back : (s : Signed) → signed_from (drop 1 (quantity_told (Factor s))) ≡ s
signed_back s = ap (λ (b : Bool). record { negative = b; magnitude = s.magnitude }) (sign_back s.negative)

-- a reading from its number and values
abbrev read_from : ℕ → List ℕ → Quantity
read_from kind vs =
    let v = get_or vs 0 0 in
    get_or (Plain 0 ∷ Voltage v ∷ Current v ∷ Power v ∷ SignedPower (signed_from vs) ∷ Energy (record { 0 = v }) (get_or vs 1 0) (record { 0 = get_or vs 2 0 }) ∷ Low v ∷ High v ∷ Wrap v ∷ Factor (signed_from vs) ∷ Sign v ∷ Sector v ∷ Frequency v ∷ Kta v ∷ Ktv v ∷ Sequence v ∷ Plain v ∷ []) kind (Plain 0)

read_back_lem : (q : Quantity) → read_from (get_or (quantity_told q) 0 0) (drop 1 (quantity_told q)) ≡ q
read_back_lem (Voltage v) = refl
read_back_lem (Current v) = refl
read_back_lem (Power v) = refl
read_back_lem (SignedPower s) = ap SignedPower (signed_back s)
read_back_lem (Energy count step wh) = refl
read_back_lem (Low v) = refl
read_back_lem (High v) = refl
read_back_lem (Wrap v) = refl
read_back_lem (Factor s) = ap Factor (signed_back s)
read_back_lem (Sign v) = refl
read_back_lem (Sector v) = refl
read_back_lem (Frequency v) = refl
read_back_lem (Kta v) = refl
read_back_lem (Ktv v) = refl
read_back_lem (Sequence v) = refl
read_back_lem (Plain v) = refl

-- two cases of other numbers
pub apart : {A : Type 0} (a b : Answer) {i j : ℕ} → case_in (told a) ≡ i → case_in (told b) ≡ j → (i ≡ j → ⊥) → told a ≡ told b → A
apart a b x y other h = absurd (other (sym x ∙ ap case_in h ∙ y))

same : (a b : Answer) → told a ≡ told b → a ≡ b
same (Reading p) (Reading q) h =
    ap Reading (sym (read_back_lem p) ∙ ap (λ (l : List ℕ). read_from (number_in l) (drop 2 l)) h ∙ read_back_lem q)
same (Reading p) (Error d) h = apart (Reading p) (Error d) refl refl (λ e. omega (arith, e)) h
same (Reading p) (Refused d) h = apart (Reading p) (Refused d) refl refl (λ e. omega (arith, e)) h
same (Error c) (Reading q) h = apart (Error c) (Reading q) refl refl (λ e. omega (arith, e)) h
same (Error c) (Error d) h = ap Error (one_reason_each.errors c d (ap number_in h))
same (Error c) (Refused d) h = apart (Error c) (Refused d) refl refl (λ e. omega (arith, e)) h
same (Refused c) (Reading q) h = apart (Refused c) (Reading q) refl refl (λ e. omega (arith, e)) h
same (Refused c) (Error d) h = apart (Refused c) (Error d) refl refl (λ e. omega (arith, e)) h
same (Refused c) (Refused d) h = ap Refused (one_reason_each.refusals c d (ap number_in h))

pub one_answer_each : OneAnswerEach
one_answer_each = record { answers = same }
