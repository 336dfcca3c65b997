-- Paper 01, "Refusal numbers", row by row, paper 02's number behind them (request 4), and the error codes of documents 000, 001, 003 and
-- 004 ("Error codes").
use Rattle.std.specs.Prelude.{◌≡◌, ◌↔◌, ℕ, List, [], ◌∷◌, Result, Ok, Err, cond, eqb}
use Rattle.refusal.specs.declared.Refusal.{Refusal}
use Rattle.refusal.specs.declared.Refusal.TheVariants.{MeterOutOfLimits, BufferShort, RatioOutOfLimits, OwnAddressZero, SampleOutOfLimits, EnergyPastTop, NotARead, ReplyLength, ReplyCrc, ReplyForeign, ReplyMisfit, IndexPastItems, ValueImpossible, JoinPastTop, RowShort}
use Rattle.refusal.specs.declared.ErrorCode.{ErrorCode}
use Rattle.refusal.specs.declared.ErrorCode.TheVariants.{Function, Address, Data}
use Rattle.refusal.specs.declared.UnknownCode.{UnknownCode}

-- the paper's number for each reason
abbrev pub refusal_number : Refusal → ℕ
refusal_number MeterOutOfLimits = 1
refusal_number BufferShort = 2
refusal_number RatioOutOfLimits = 3
refusal_number OwnAddressZero = 4
refusal_number SampleOutOfLimits = 5
refusal_number EnergyPastTop = 6
refusal_number NotARead = 7
refusal_number ReplyLength = 8
refusal_number ReplyCrc = 9
refusal_number ReplyForeign = 10
refusal_number ReplyMisfit = 11
refusal_number IndexPastItems = 12
refusal_number ValueImpossible = 13
refusal_number JoinPastTop = 14
refusal_number RowShort = 15

-- 0x01: incorrect functional code; 0x02: wrong first WORD address; 0x03: incorrect data
abbrev pub error_number : ErrorCode → ℕ
error_number Function = 1
error_number Address = 2
error_number Data = 3

-- the code that a number names, or the number where it names none
abbrev pub code_named : ℕ → Result ErrorCode UnknownCode
code_named n =
    cond (eqb n (error_number Function)) (Ok Function)
    (cond (eqb n (error_number Address)) (Ok Address)
    (cond (eqb n (error_number Data)) (Ok Data)
    (Err (record { 0 = n }))))

-- An answer in numbers begins with 0, 1 or 2. A refusal, whatever call gives it: 2 and its number
abbrev pub refused_by : ℕ → List ℕ
refused_by n = 2 ∷ n ∷ []

-- the meter's error code, where an answer hands it on: 1 and the code
abbrev pub error_by : ℕ → List ℕ
error_by code = 1 ∷ code ∷ []

-- STATEMENT: a number names one reason, so a promise of a number is a promise of the answer
pub record OneReasonEach : Type 0 where
  pub refusals : (a b : Refusal) → refusal_number a ≡ refusal_number b → a ≡ b
  pub errors : (a b : ErrorCode) → error_number a ≡ error_number b → a ≡ b
  -- a number is told as the code whose number it is, and as no other
  pub codes : (n : ℕ) (code : ErrorCode) → (code_named n ≡ Ok code) ↔ (n ≡ error_number code)
