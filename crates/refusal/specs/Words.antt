-- What is printed of a reason, an error code and a number that no code has: beside the number the row of the table in words.
use Rattle.std.specs.Prelude.{ℕ, ◌-◌, List, ◌++◌, codes, length, replicate}
use Rattle.std.specs.Fmt.{decimal}
use Rattle.refusal.specs.declared.Refusal.{Refusal}
use Rattle.refusal.specs.declared.Refusal.TheVariants.{MeterOutOfLimits, BufferShort, RatioOutOfLimits, OwnAddressZero, SampleOutOfLimits, EnergyPastTop, NotARead, ReplyLength, ReplyCrc, ReplyForeign, ReplyMisfit, IndexPastItems, ValueImpossible, JoinPastTop, RowShort}
use Rattle.refusal.specs.declared.ErrorCode.{ErrorCode}
use Rattle.refusal.specs.declared.ErrorCode.TheVariants.{Function, Address, Data}
use Rattle.refusal.specs.declared.UnknownCode.{UnknownCode}
use Rattle.refusal.specs.Numbers.{refusal_number, error_number}

-- the rows of the refusal table, shortened, in their order, and paper 02's behind them
abbrev pub refusal_words : Refusal → List ℕ
refusal_words MeterOutOfLimits = codes "meter record out of limits"
refusal_words BufferShort = codes "reply buffer under 256 bytes"
refusal_words RatioOutOfLimits = codes "KTA or KTV out of limits"
refusal_words OwnAddressZero = codes "own address 0"
refusal_words SampleOutOfLimits = codes "sample out of limits"
refusal_words EnergyPastTop = codes "energy past its top"
refusal_words NotARead = codes "not a read that is answered with data"
refusal_words ReplyLength = codes "reply under 5 or over 256 bytes"
refusal_words ReplyCrc = codes "reply CRC wrong"
refusal_words ReplyForeign = codes "reply of another address or function"
refusal_words ReplyMisfit = codes "reply does not fit the request"
refusal_words IndexPastItems = codes "index past the items"
refusal_words ValueImpossible = codes "value impossible"
refusal_words JoinPastTop = codes "count, Low or High over its top"
refusal_words RowShort = codes "row shorter than the items"

-- a refusal as it is printed: its number and its row's words
abbrev pub refusal_text : Refusal → List ℕ
refusal_text reason = codes "refused " ++ decimal (refusal_number reason) ++ codes ", " ++ refusal_words reason

-- what the meter found wrong
abbrev pub error_words : ErrorCode → List ℕ
error_words Function = codes "incorrect function"
error_words Address = codes "wrong first address"
error_words Data = codes "incorrect data"

-- a number in decimal, with zeros before it up to two digits
abbrev pub two_digits : ℕ → List ℕ
two_digits n = replicate (2 - length (decimal n)) 48 ++ decimal n

-- an error code as it is printed: its number in two digits, and its words
abbrev pub error_text : ErrorCode → List ℕ
error_text code = codes "error " ++ two_digits (error_number code) ++ codes ", " ++ error_words code

-- a number that is no code, as it is printed
abbrev pub unknown_code_text : UnknownCode → List ℕ
unknown_code_text unknown = codes "no error has code " ++ two_digits unknown.0
