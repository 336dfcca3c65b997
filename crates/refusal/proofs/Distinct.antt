-- The table's rows in order give each reason back from its number, so two reasons of one number are the same.
use mathlib.Core.Path.{◌≡◌, refl, sym, ap, ◌∙◌}
use mathlib.Core.List.{List, [], ◌∷◌}
use Prim.Native.Nat.{ℕ, zero, suc, ◌-◌, ◌<◌}
use native.Mathlib.Omega.{arith}
use borrow.Author.Tests.{ne_eqb}
use lib.ListN.{get_or}
use Rattle.refusal.specs.declared.Refusal.{Refusal}
use Rattle.refusal.specs.declared.Refusal.TheVariants.{MeterOutOfLimits, BufferShort, RatioOutOfLimits, OwnAddressZero, SampleOutOfLimits, EnergyPastTop, NotARead, ReplyLength, ReplyCrc, ReplyForeign, ReplyMisfit, IndexPastItems, ValueImpossible, JoinPastTop, RowShort}
use Rattle.refusal.specs.declared.ErrorCode.{ErrorCode}
use Rattle.refusal.specs.declared.ErrorCode.TheVariants.{Function, Address, Data}
use Rattle.refusal.specs.declared.UnknownCode.{UnknownCode}
use Rattle.std.specs.Prelude.{◌≢◌, Result, Ok, Err}
use Rattle.std.specs.Result.{result_unwrap_or}
use Rattle.refusal.specs.Numbers.{refusal_number, error_number, code_named, OneReasonEach}

abbrev reason_of : ℕ → Refusal
reason_of n = get_or (MeterOutOfLimits ∷ BufferShort ∷ RatioOutOfLimits ∷ OwnAddressZero ∷ SampleOutOfLimits ∷ EnergyPastTop ∷ NotARead ∷ ReplyLength ∷ ReplyCrc ∷ ReplyForeign ∷ ReplyMisfit ∷ IndexPastItems ∷ ValueImpossible ∷ JoinPastTop ∷ RowShort ∷ []) (n - 1) MeterOutOfLimits

reason_back : (a : Refusal) → reason_of (refusal_number a) ≡ a
reason_back MeterOutOfLimits = refl
reason_back BufferShort = refl
reason_back RatioOutOfLimits = refl
reason_back OwnAddressZero = refl
reason_back SampleOutOfLimits = refl
reason_back EnergyPastTop = refl
reason_back NotARead = refl
reason_back ReplyLength = refl
reason_back ReplyCrc = refl
reason_back ReplyForeign = refl
reason_back ReplyMisfit = refl
reason_back IndexPastItems = refl
reason_back ValueImpossible = refl
reason_back JoinPastTop = refl
reason_back RowShort = refl

code_back : (a : ErrorCode) → code_named (error_number a) ≡ Ok a
code_back Function = refl
code_back Address = refl
code_back Data = refl

-- the number of a code that a number was told as; 0 where it names none
abbrev number_told : Result ErrorCode UnknownCode → ℕ
number_told (Ok code) = error_number code
number_told (Err unknown) = 0

-- a number past the codes names none
unnamed : (n : ℕ) → 3 < n → number_told (code_named n) ≡ 0
unnamed n over = simp (ne_eqb n 1 (λ z. omega (arith, over, z)), ne_eqb n 2 (λ z. omega (arith, over, z)), ne_eqb n 3 (λ z. omega (arith, over, z)))

-- and no code has the number 0
some : (code : ErrorCode) → error_number code ≢ 0
some Function e = omega (arith, e)
some Address e = omega (arith, e)
some Data e = omega (arith, e)

number_back : (n : ℕ) (code : ErrorCode) → number_told (code_named n) ≡ error_number code → n ≡ error_number code
number_back zero code e = e
number_back (suc zero) code e = e
number_back (suc (suc zero)) code e = e
number_back (suc (suc (suc zero))) code e = e
number_back (suc (suc (suc (suc n)))) code e = absurd (some code (sym e ∙ unnamed (suc (suc (suc (suc n)))) (omega arith)))

pub one_reason_each : OneReasonEach
one_reason_each = record {
  refusals = λ a b e. sym (reason_back a) ∙ ap reason_of e ∙ reason_back b;
  errors = λ a b e. ap (λ told. result_unwrap_or told Function) (sym (code_back a) ∙ ap code_named e ∙ code_back b);
  codes = λ n code. (λ e. number_back n code (ap number_told e), λ e. ap code_named e ∙ code_back code);
}

-- ---- answers in numbers

-- the case of an answer, and the number behind it
abbrev pub case_in : List ℕ → ℕ
case_in l = get_or l 0 0

abbrev pub number_in : List ℕ → ℕ
number_in l = get_or l 1 0
